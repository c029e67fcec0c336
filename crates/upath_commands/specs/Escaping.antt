-- A test that returns true if a path escapes.
use Rattle.std.specs.Prelude.{ℕ, ◌+◌, Bool, ◌||◌, nat_lt, List, length, take, count_by}
use Rattle.std.specs.List.{list_any, range_with_len}
use Rattle.unix_path.specs.Parts.{Value, is_rooted, values}
use Rattle.path_within.specs.Escapes.{is_name, is_parent_dir}

-- some prefix of these components has more `..` than names
unfoldable pub goes_above : List Value → Bool
goes_above vs =
    list_any (λ n. nat_lt (count_by is_name (take n vs)) (count_by is_parent_dir (take n vs)))
    (range_with_len 0 (length vs + 1))

-- the path has a root, or some prefix of its components has more `..` than names
unfoldable pub escapes : List ℕ → Bool
escapes p = is_rooted p || goes_above (values p)
