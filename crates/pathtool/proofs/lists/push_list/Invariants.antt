use Rattle.std.proofs.Common.{◌≡◌, ◌++◌}
use Rattle.pathtool.specs.Fields.{tabs}
use Rattle.pathtool.proofs.lemmas.answers.TabbedLemmas.{has_none, names_bytes}
use Rattle.pathtool.proofs.lists.push_list.Given as goal

abbrev pub invariant-loop-item : goal.invariant-loop-item
invariant-loop-item g l =
    (l.is_first ≡ has_none (names_bytes l.yielded))
    × (l.answer.items ≡ l.initial.answer.items ++ tabs (names_bytes l.yielded))
