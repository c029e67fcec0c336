use Rattle.std.proofs.Common.{ap, reverse, if◌then◌else◌}
use Rattle.upath_commands.proofs.lemmas.UniqueLemmas.{sorted_firsts}
use Rattle.upath_commands.proofs.sort_laws.sort_unique_keeps_firsts.Goals as goal

pub returns : goal.returns
returns c = λ all unique paths kept dropped same. rw (kept, dropped, same)
    (ap (λ sorted. if all.reversed then reverse sorted else sorted) (sorted_firsts paths))
