use Rattle.std.proofs.Common.{◌≡◌, ◌++◌, map, take}
use Rattle.pathtool.specs.Fields.{tabs}
use Rattle.pathtool.proofs.lemmas.answers.TableLemmas.{row_spelling}
use Rattle.pathtool.proofs.lemmas.answers.TabbedLemmas.{has_none}
use Rattle.pathtool.proofs.tables.push_all.Given as goal

-- the canonical forms of the paths so far have been appended, with tabs between them
abbrev pub invariant-loop-path : goal.invariant-loop-path
invariant-loop-path l =
    let spelled = map row_spelling (take l.path-index l.paths) in
    (l.is_first ≡ has_none spelled) × (l.answer.items ≡ l.initial.answer.items ++ tabs spelled)
