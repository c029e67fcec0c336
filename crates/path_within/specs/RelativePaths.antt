-- The relative path from one path to another, found lexically, like Python's `PurePath.relative_to`
-- with `walk_up`, which does not resolve.
use Rattle.std.specs.Prelude.{not, ◌&&◌, if◌then◌else◌, List, ◌++◌, drop, map}
use Rattle.std.specs.Prelude.{Option, Some, None}
use Rattle.std.specs.List.{common_prefix_len, list_all, list_any}
use Rattle.unix_path.specs.Order.{same_value}
use Rattle.unix_path.specs.Parts.{Value, ParentDir}
use Rattle.path_within.specs.Resolved.{resolved_of}
use Rattle.path_within.specs.Escapes.{is_name, is_root}

-- the relative path from the components `from` to the components `to`: both are resolved, and their
-- common prefix is dropped; the result is a `..` for each name of the first rest, and then the
-- second rest; it is `None` if the first rest has a component that is not a name, or if the second
-- has a root
unfoldable pub relative_path_of : List Value → List Value → Option (List Value)
relative_path_of from to =
    let v = resolved_of from in
    let w = resolved_of to in
    let n = common_prefix_len same_value v w in
    if list_all is_name (drop n v) && not (list_any is_root (drop n w))
    then Some (map (λ x. ParentDir) (drop n v) ++ drop n w) else None
