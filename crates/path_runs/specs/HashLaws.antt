-- Laws of the bytes that a path feeds a hasher. Not in Rust's std.
use Rattle.std.specs.Prelude.{◌≡◌, ℕ, List}
use Rattle.std.specs.List.{concat}
use Rattle.unix_path.specs.Hashed.{hash_input_of}
use Rattle.unix_path.specs.Parts.{values, SameValues}
use Rattle.unix_path.specs.Prefixes.{IsPrefixOf}

-- the bytes that a path feeds a hasher, however they are split into writes
abbrev pub bytes_fed : List ℕ → List ℕ
bytes_fed s = concat (hash_input_of (values s))

-- if two paths feed a hasher the same bytes, they are equal
abbrev pub InputsInjective : Type 0
InputsInjective = (s t : List ℕ) → bytes_fed s ≡ bytes_fed t → SameValues s t

-- if the bytes that s feeds are a prefix of the bytes that t feeds, the components of s are a
-- prefix of the components of t
abbrev pub InputsReflectPrefixes : Type 0
InputsReflectPrefixes =
    (s t : List ℕ) → IsPrefixOf (bytes_fed s) (bytes_fed t) → IsPrefixOf (values s) (values t)
