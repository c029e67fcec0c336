-- Runs of a path: each `..`, and names separated by single slashes. No public clause cites this
-- definition.
use Rattle.std.specs.Prelude.{ℕ, List, [], ◌∷◌, ◌++◌, take, map, if◌then◌else◌}
use Rattle.unix_path.specs.Scan.{starts_with_parent_dir}
use Rattle.path_keys.specs.NameBytes.{coded}

-- the bytes in a key of the run at the beginning of s: of `..`, or else of the names in the first n
-- bytes of s
abbrev pub run_key : List ℕ → ℕ → List ℕ
run_key s n = if starts_with_parent_dir s then 0 ∷ 3 ∷ [] else (map coded (take n s) ++ 0 ∷ [])
