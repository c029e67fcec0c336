-- Which paths are answered.
use Rattle.std.specs.Prelude.{ℕ, Bool, true, not, List, [], ◌∷◌, is_some, if◌then◌else◌}
use Rattle.std.specs.List.{filter}
use Rattle.unix_path.specs.Parts.{Value, values}
use Rattle.path_runs.specs.Rows.{value_at}
use Rattle.path_table.specs.Table.{table_of}
use Rattle.upath_commands.specs.Sorting.{firsts_of}
use Rattle.upath_commands.specs.declared.selection.Selection.{Selection}
use Rattle.upath_commands.specs.declared.selection.Selection.TheVariants.{All, Firsts}

-- no row has the components of p
abbrev pub is_new : {V : Type 0} → List (List Value × V) → List ℕ → Bool
is_new rows p = not (is_some (value_at (values p) rows))

-- the path is answered if it comes next
abbrev pub is_taken : Selection → List ℕ → Bool
is_taken All p = true
is_taken (Firsts table) p = is_new (table_of table) p

-- the next path, if it is answered
abbrev pub taken : Selection → List ℕ → List (List ℕ)
taken selection p = if is_taken selection p then p ∷ [] else []

-- those of the paths that are answered if they come next
abbrev pub selected : Selection → List (List ℕ) → List (List ℕ)
selected All paths = paths
selected (Firsts table) paths = filter (is_new (table_of table)) (firsts_of paths)
