-- The codes of components, at the beginning of a key's bytes. Public clauses cite only `lowered`.
use Rattle.std.specs.Prelude.{◌≡◌, ℕ, ◌-◌, Bool, List, [], ◌∷◌, ◌++◌, nat_le, if◌then◌else◌}
use Rattle.unix_path.specs.CommonDir.{inner_values}
use Rattle.unix_path.specs.Parts.{slash, Value, RootDir, CurDir, ParentDir, values}
use Rattle.path_keys.specs.Keys.{code}
use Rattle.path_keys.specs.declared.codes.Code.{Code}
use Rattle.path_keys.specs.declared.codes.Code.TheVariants.{Root, Dot, Up, Name}

-- the byte of a name for which a key has the byte b
abbrev pub lowered : ℕ → ℕ
lowered b = if nat_le b slash then b - 1 else b

-- v is the only component of some path if `first` is true, and otherwise of some bytes that follow
-- a slash
abbrev pub IsComponent : Bool → Value → Type 0
IsComponent first v = (s : List ℕ) × ((if first then values s else inner_values s) ≡ v ∷ [])

-- the bytes of a code in a key
abbrev pub code_bytes : Code → List ℕ
code_bytes Root = code RootDir
code_bytes Dot = code CurDir
code_bytes Up = code ParentDir
code_bytes (Name name) = name.now ++ 0 ∷ []
