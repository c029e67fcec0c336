use Rattle.path_runs.proofs.lemmas.order.IntervalLemmas.{begins_between}
use Rattle.path_runs.proofs.laws.order.descendants_contiguous.Goals as goal

pub returns : goal.returns
returns c = begins_between
