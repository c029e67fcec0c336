use Rattle.std.proofs.Common.{arith}
use Rattle.path_tree.proofs.lemmas.entries.EntryLemmas.{is_key-entry}
use Rattle.path_tree.proofs.tree.PathTree.first.Goals as goal

pub returns-clause-key : goal.returns-clause-key
returns-clause-key g c = grind (arith, is_key-entry)
