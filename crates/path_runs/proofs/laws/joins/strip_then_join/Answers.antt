use Rattle.path_runs.proofs.lemmas.joins.StripLemmas.{values-join_of_stripped}
use Rattle.path_runs.proofs.laws.joins.strip_then_join.Goals as goal

pub returns : goal.returns
returns c = values-join_of_stripped
