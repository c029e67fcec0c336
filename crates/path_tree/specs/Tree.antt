-- The entries of a tree.
use Rattle.std.specs.Prelude.{ℕ, List}
use Rattle.path_tree.specs.Entries.{key_entries}
use Rattle.path_tree.specs.declared.tree.PathTree.{PathTree}

-- the bytes of the key of each path of the tree, in path order, with the value at that path
abbrev pub entries_of : {V : Type 0} → PathTree V → List (List ℕ × V)
entries_of tree = key_entries tree.entries.entries
