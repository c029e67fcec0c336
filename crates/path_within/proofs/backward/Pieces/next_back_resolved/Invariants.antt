use Rattle.std.proofs.Common.{length}
use Rattle.path_within.specs.Pieces.{remaining_values}
use Rattle.path_within.proofs.lemmas.backward.LastLemmas.{Leaves}
use Rattle.path_within.proofs.backward.Pieces.next_back_resolved.Given as goal

abbrev pub invariant-loop-bytes : goal.invariant-loop-bytes
invariant-loop-bytes l = Leaves l.parent_dirs (remaining_values l.self) (remaining_values l.fn.self)

abbrev pub decreases-loop-bytes : goal.decreases-loop-bytes
decreases-loop-bytes l = length (remaining_values l.self)
