use Rattle.std.proofs.Common.{◌≡◌, ◌++◌, map}
use Rattle.std.specs.Map.Iter.{deref_pair}
use Rattle.path_tree.specs.Cursor.{cursor_entries}
use Rattle.path_tree.specs.Difference.{entries_lacking}
use Rattle.path_tree.specs.Entries.{key_entries}
use Rattle.path_tree.specs.Tree.{entries_of}
use Rattle.path_tree.proofs.lemmas.entries.MergeLemmas.{Merges}
use Rattle.path_tree.proofs.tree.PathTree.difference.Given as goal

abbrev pub invariant-loop-key : goal.invariant-loop-key
invariant-loop-key g l =
    (goal.iterator-loop-key g).can_next l.key-iterator
    × (goal.iterator-loop-key g).is_finite l.key-iterator
    × Merges (entries_of l.fn.other) (cursor_entries l.others) (key_entries l.key-iterator)
    × (map deref_pair l.found.items
    ++ entries_lacking (entries_of l.fn.other) (key_entries l.key-iterator)
    ≡ entries_lacking (entries_of l.fn.other) (entries_of l.fn.self))
