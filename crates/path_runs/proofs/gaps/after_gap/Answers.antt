use Rattle.std.proofs.Common.{arith}
use Rattle.path_runs.proofs.lemmas.gaps.FirstGapLemmas.{slashed_parts-filler}
use Rattle.path_runs.proofs.gaps.after_gap.Goals as goal

pub loop-at-preserved : goal.loop-at-preserved
loop-at-preserved c = grind (arith, slashed_parts-filler)
