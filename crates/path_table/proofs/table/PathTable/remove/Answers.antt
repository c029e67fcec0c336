use Rattle.std.proofs.Common.{rules}
use Rattle.unix_path.specs.Order.{values_cmp}
use Rattle.unix_path.specs.OrderLaws.{is_eq-values_cmp}
use Rattle.path_runs.proofs.lemmas.rows.UpdateLemmas.{elsewhere-remove_entry}
use Rattle.path_table.proofs.table.PathTable.remove.Goals as goal

pub returns-clause-others : goal.returns-clause-others
returns-clause-others g c =
    elsewhere-remove_entry values_cmp is_eq-values_cmp _ _ _ (search rules)
