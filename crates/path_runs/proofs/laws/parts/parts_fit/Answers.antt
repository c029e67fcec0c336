use Rattle.unix_path.proofs.lemmas.rests.RestLemmas.{length-values}
use Rattle.path_runs.proofs.lemmas.spelling.FitLemmas.{byte_count-values, sum_by-items}
use Rattle.path_runs.proofs.laws.parts.parts_fit.Goals as goal

pub returns : goal.returns
returns c = record { count = length-values; bytes = byte_count-values; items = sum_by-items }
