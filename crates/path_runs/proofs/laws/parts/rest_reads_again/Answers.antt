use Rattle.unix_path.proofs.lemmas.rests.RestLemmas.{values-rest, rest-rest}
use Rattle.path_runs.proofs.laws.parts.rest_reads_again.Goals as goal

pub returns : goal.returns
returns c = record { values = values-rest; rest = rest-rest }
