use Rattle.std.proofs.lemmas.Bool.{leb-true}
use Rattle.path_runs.proofs.lemmas.edits.EditStepLemmas.{parent_of-root_only}
use Rattle.path_runs.proofs.edits.cache.ScanCache.is_root_with_filler.Goals as goal
use Rattle.std.proofs.Common.{arith}

pub returns-clause-value : goal.returns-clause-value
returns-clause-value c = grind (arith, parent_of-root_only, leb-true)
