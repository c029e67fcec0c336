use Rattle.std.proofs.Common.{arith}
use Rattle.path_runs.proofs.lemmas.gaps.FirstGapLemmas.{no_parts_after_end}
use Rattle.path_runs.proofs.canonical.push_parts.Goals as goal

pub returns : goal.returns
returns c = grind (arith, no_parts_after_end)
