use Rattle.unix_path.specs.OrderLaws.{values_cmp-total}
use Rattle.path_runs.proofs.lemmas.order.OrderLemmas.{one_order, values_cmp-ties}
use Rattle.path_runs.proofs.laws.order.order_total.Goals as goal

pub returns : goal.returns
returns c = record {
  total = values_cmp-total;
  equal = values_cmp-ties;
  one = one_order;
  transitive = values_cmp-total.trans;
}
