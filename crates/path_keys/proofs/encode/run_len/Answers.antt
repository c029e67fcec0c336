use Rattle.std.proofs.Common.{arith}
use Rattle.path_keys.proofs.lemmas.writing.RunLemmas.{run-up, run-names}
use Rattle.path_keys.proofs.encode.run_len.Goals as goal

pub returns-then-starts_with_parent_dir : goal.returns-then-starts_with_parent_dir
returns-then-starts_with_parent_dir c = grind (arith, run-up)

pub returns : goal.returns
returns c = grind (arith, run-names)
