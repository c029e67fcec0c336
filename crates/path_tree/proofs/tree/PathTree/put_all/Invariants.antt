use Rattle.path_tree.specs.Tree.{entries_of}
use Rattle.path_tree.proofs.lemmas.entries.PutLemmas.{Puts}
use Rattle.path_tree.proofs.tree.PathTree.put_all.Given as goal

abbrev pub invariant-loop-key : goal.invariant-loop-key
invariant-loop-key g l =
    (goal.iterator-loop-key g).can_next l.key-iterator
    × (goal.iterator-loop-key g).is_finite l.key-iterator
    × Puts l.fn.entries.items (entries_of l.initial.self) l.key-iterator (entries_of l.self)
