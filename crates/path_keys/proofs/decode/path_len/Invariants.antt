use Rattle.std.proofs.Common.{length}
use Rattle.path_keys.proofs.lemmas.spelling.RunReadLemmas.{ReadsRuns}
use Rattle.path_keys.proofs.decode.path_len.Given as goal

abbrev pub invariant-loop-rest : goal.invariant-loop-rest
invariant-loop-rest l = ReadsRuns l.key l.rest l.len

abbrev pub decreases-loop-rest : goal.decreases-loop-rest
decreases-loop-rest l = length l.rest
