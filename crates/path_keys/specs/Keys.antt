-- The key of a path, for a store that orders its keys by their bytes.
use Rattle.std.specs.Prelude.{◌≡◌, ℕ, ◌+◌, List, [], ◌∷◌, ◌++◌, map, nat_lt, if◌then◌else◌}
use Rattle.std.specs.List.{flat_map}
use Rattle.unix_path.specs.Parts.{slash, Value, RootDir, CurDir, ParentDir, Normal, values}

-- the byte in a key for the byte b of a name: b + 1 if b is less than a slash, and b otherwise; no
-- name has a slash
abbrev pub raised : ℕ → ℕ
raised b = if nat_lt b slash then b + 1 else b

-- the bytes of a component in a key
abbrev pub code : Value → List ℕ
code RootDir = 0 ∷ 1 ∷ []
code CurDir = 0 ∷ 2 ∷ []
code ParentDir = 0 ∷ 3 ∷ []
code (Normal name) = map raised name ++ 0 ∷ []

-- the bytes of these components in a key, one after the other
unfoldable pub key_of : List Value → List ℕ
key_of vs = flat_map code vs

-- some path has these bytes as its key
abbrev pub IsKey : List ℕ → Type 0
IsKey key = (s : List ℕ) × (key_of (values s) ≡ key)
