use Rattle.std.proofs.Common.{sym}
use Rattle.path_runs.specs.JoinLaws.{values_added}
use Rattle.path_runs.proofs.lemmas.joins.LeadLemmas.{values-join_of_values_added}
use Rattle.path_runs.proofs.laws.joins.join_starts_with.Goals as goal

pub returns-clause-begins : goal.returns-clause-begins
returns-clause-begins c = λ a b r. (values_added a b, sym (values-join_of_values_added a b r))

pub returns-clause-values : goal.returns-clause-values
returns-clause-values c = values-join_of_values_added
