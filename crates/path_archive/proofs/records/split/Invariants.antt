use Rattle.std.proofs.Common.{length, ◌-◌}
use Rattle.path_archive.proofs.lemmas.records.SplitLemmas.{SplitHolds}
use Rattle.path_archive.proofs.records.split.Given as goal

abbrev pub invariant-loop-at : goal.invariant-loop-at
invariant-loop-at l = SplitHolds l.records l.at l.entry l.count l.slots

abbrev pub decreases-loop-at : goal.decreases-loop-at
decreases-loop-at l = length l.records - l.at
