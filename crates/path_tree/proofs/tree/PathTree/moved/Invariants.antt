use Rattle.std.proofs.Common.{◌≡◌, ◌++◌}
use Rattle.path_tree.specs.Entries.{key_entries}
use Rattle.path_tree.specs.Moved.{moved_entries}
use Rattle.path_tree.specs.Tree.{entries_of}
use Rattle.path_tree.proofs.lemmas.keys.OwnLemmas.{Key, Own}
use Rattle.path_tree.proofs.tree.PathTree.moved.Given as goal

abbrev pub invariant-loop-key : goal.invariant-loop-key
invariant-loop-key g l =
    (goal.iterator-loop-key g).can_next l.key-iterator
    × (goal.iterator-loop-key g).is_finite l.key-iterator
    × Own (λ (k : Key). k.items) l.key-iterator
    × Own (λ (k : Key). k.items) l.moved.items
    × (key_entries l.moved.items
    ++ moved_entries l.fn.from l.fn.to (key_entries l.key-iterator)
    ≡ moved_entries l.fn.from l.fn.to (entries_of l.fn.self))
