-- The entries in which a cursor finds keys. No public clause cites this definition.
use Rattle.std.specs.Prelude.{ℕ, List}
use Rattle.path_tree.specs.Entries.{entries_from, key_entries}
use Rattle.path_tree.specs.Tree.{entries_of}
use Rattle.path_tree.specs.declared.tree.merge_cursor.MergeCursor.{MergeCursor}
use Rattle.path_tree.specs.declared.tree.merge_cursor.MergeCursor.TheVariants.{LookUp, Walk}

-- the entries that a walk has not passed; for look-ups, all entries of the tree
abbrev pub cursor_entries : {V : Type 0} → MergeCursor V → List (List ℕ × V)
cursor_entries (Walk walk) = key_entries (entries_from walk.next walk.rest)
cursor_entries (LookUp tree) = entries_of tree.now
