use Rattle.path_table.proofs.RowLemmas.{sorted-rows_of}
use Rattle.path_table.proofs.table.PathTable.iter.Goals as goal

pub returns-clause-ordered : goal.returns-clause-ordered
returns-clause-ordered g c = sorted-rows_of c.args.self.now.inner.entries c.iter.ensures.ordered
