-- The components that a key represents: the codes of a key, read from its beginning.
use Rattle.std.specs.Prelude.{ℕ, ◌==◌, Bool, List, [], ◌∷◌, ◌++◌, Option, Some, None, if◌then◌else◌}
use Rattle.std.specs.Str.{bytes_eq}
use Rattle.unix_path.specs.Parts.{Value, RootDir, CurDir, ParentDir, Normal, values}
use Rattle.path_runs.specs.Spelling.{spelling_of}
use Rattle.path_keys.specs.Keys.{key_of}
use Rattle.path_keys.specs.Codes.{lowered}

-- the component whose code is 0 and then this byte
abbrev pub marked : ℕ → Value
marked mark = if mark == 1 then RootDir else (if mark == 2 then CurDir else ParentDir)

-- the components that the rest of a key represents if these first bytes of a name were read before
-- it (`Some`), or if the 0 before a mark was read (`None`)
unfoldable pub values_from : Option (List ℕ) → List ℕ → List Value
values_from name [] = []
values_from None (b ∷ key) = marked b ∷ values_from (Some []) key
values_from (Some []) (b ∷ key) =
    if b == 0 then values_from None key else values_from (Some (lowered b ∷ [])) key
values_from (Some (a ∷ name)) (b ∷ key) =
    if b == 0 then Normal (a ∷ name) ∷ values_from (Some []) key
    else values_from (Some ((a ∷ name) ++ lowered b ∷ [])) key

-- the components whose codes these bytes are, one after the other
abbrev pub key_values : List ℕ → List Value
key_values key = values_from (Some []) key

-- these bytes are the key of a path: of the canonical form of the components that they represent
abbrev pub is_own : List ℕ → Bool
is_own key = bytes_eq (key_of (values (spelling_of (key_values key)))) key
