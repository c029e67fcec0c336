-- What a path feeds a hasher: its values one after the other. The format is this crate's own.
use Rattle.std.specs.Prelude.{ℕ, ◌/◌, ◌∷◌, ◌++◌, List, [], length}
use Rattle.std.specs.Hash.{HashWrites}
use Rattle.std.specs.List.{flat_map, repeat}
use Rattle.std.specs.Simd.{first_chunks}
use Rattle.unix_path.specs.Parts.{Value, slash, value_bytes}

-- a slash and seven zeros
abbrev pub terminator : List ℕ
terminator = slash ∷ repeat 7 (0 ∷ [])

-- these bytes, cut into writes of eight each; up to seven bytes that are left over at the end are
-- dropped
unfoldable pub in_eights : List ℕ → HashWrites
in_eights bytes = first_chunks 8 (length bytes / 8) bytes

-- the bytes of a value and the terminator, cut into writes of eight each; up to seven zeros that
-- are left over at the end are dropped
abbrev pub value_input : Value → HashWrites
value_input v = in_eights (value_bytes v ++ terminator)

-- the writes that these values feed a hasher (`value_input`), one value after the other
abbrev pub hash_input_of : List Value → HashWrites
hash_input_of = flat_map value_input
