use Rattle.std.proofs.Common.{arith}
use Rattle.path_tree.proofs.lemmas.entries.UpdateLemmas.{entry_at-lookup}
use Rattle.path_tree.proofs.tree.merge_cursor.MergeCursor.find.Goals as goal

pub returns-in-LookUp-clause-value : goal.returns-in-LookUp-clause-value
returns-in-LookUp-clause-value g c = grind (arith, entry_at-lookup)
