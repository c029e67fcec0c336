-- The pieces of a path that have not been taken. No public clause cites this definition.
use Rattle.std.specs.Prelude.{List, [], map, if◌then◌else◌}
use Rattle.std.specs.List.{slice_split}
use Rattle.unix_path.specs.Parts.{Value, is_slash}
use Rattle.path_within.specs.Backward.{piece_value}
use Rattle.path_within.specs.declared.backward.Pieces.{Pieces}

-- the pieces of p that have not been taken, as components, from the first to the last
abbrev pub remaining_values : Pieces → List Value
remaining_values p =
    if p.is_exhausted then [] else map piece_value (slice_split is_slash p.rest.now)
