-- Trees of files, as lists of components with their values.
use Rattle.std.specs.Prelude.{List}
use Rattle.unix_path.specs.Buffers.{path_bytes}
use Rattle.unix_path.specs.Parts.{Value}
use Rattle.path_runs.specs.TableLaws.{rows_of}
use Rattle.callers.specs.declared.tree.Tree.{Tree}

-- the components of each path of the tree, in ascending order, with the value at that path
abbrev pub rows : {V : Type 0} → Tree V → List (List Value × V)
rows tree = rows_of path_bytes tree.files.entries
