-- The texts of the errors of trees.
use Rattle.std.specs.Prelude.{ℕ, List, codes}
use Rattle.path_tree.specs.declared.tree.lookup.LookupError.{LookupError}
use Rattle.path_tree.specs.declared.tree.lookup.LookupError.TheVariants.{Absent}
use Rattle.path_tree.specs.declared.tree.lookup.LookupError.TheVariants as lookup_errors
use Rattle.path_tree.specs.declared.tree.move_under.MoveError.{MoveError}
use Rattle.path_tree.specs.declared.tree.move_under.MoveError.TheVariants.{Inside, Occupied}
use Rattle.path_tree.specs.declared.tree.move_under.MoveError.TheVariants as move_errors
use Rattle.path_tree.specs.declared.tree.sorted.SortedError.{SortedError}
use Rattle.path_tree.specs.declared.tree.sorted.SortedError.TheVariants.{Memory, NotSorted}

-- the text that an error of a tree from sorted items is printed as
abbrev pub sorted_error_text : SortedError → List ℕ
sorted_error_text NotSorted = codes "paths are not sorted"
sorted_error_text (Memory error) = codes "out of memory"

-- the text that an error of a look-up is printed as
abbrev pub lookup_error_text : LookupError → List ℕ
lookup_error_text Absent = codes "no such path"
lookup_error_text (lookup_errors.Memory error) = codes "out of memory"

-- the text that an error of a move is printed as
abbrev pub move_error_text : MoveError → List ℕ
move_error_text Inside = codes "the target is inside its source"
move_error_text Occupied = codes "the target has entries"
move_error_text (move_errors.Memory error) = codes "out of memory"
