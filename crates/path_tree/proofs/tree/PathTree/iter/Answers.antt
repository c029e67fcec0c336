use Rattle.path_tree.proofs.lemmas.entries.EntryLemmas.{sorted-key_entries}
use Rattle.path_tree.proofs.tree.PathTree.iter.Goals as goal

pub returns-clause-ordered : goal.returns-clause-ordered
returns-clause-ordered g c =
    sorted-key_entries c.args.self.now.entries.entries c.iter.ensures.ordered
