-- The canonical form of a list of components. Not in Rust's std.
use Rattle.std.specs.Prelude.{ℕ, List, [], ◌∷◌, map}
use Rattle.std.specs.List.{flat_map, join_with_byte}
use Rattle.unix_path.specs.Parts.{Value, RootDir, slash, value_bytes}

-- the components' bytes, with one slash between neighbours
abbrev pub slashed_bytes : List Value → List ℕ
slashed_bytes vs = join_with_byte slash (map value_bytes vs)

-- the components' bytes, with a slash before each component
abbrev pub slash_each : List Value → List ℕ
slash_each vs = flat_map (λ v. slash ∷ value_bytes v) vs

-- the canonical form of a list of components: a slash for a leading root, and then the bytes of the
-- other components, with one slash between neighbours
unfoldable pub spelling_of : List Value → List ℕ
spelling_of [] = []
spelling_of (RootDir ∷ vs) = slash ∷ slashed_bytes vs
spelling_of (v ∷ vs) = slashed_bytes (v ∷ vs)
