use Rattle.path_runs.proofs.lemmas.order.ParentBeforeLemmas.{parent-before, parent-join_name}
use Rattle.path_runs.proofs.laws.queries.parent_before.Goals as goal

pub returns : goal.returns
returns c = record { order = parent-before; join = parent-join_name }
