-- Prefixes and suffixes of lists, and the rest after a prefix (Rust's `Path::strip_prefix`).
use Rattle.std.specs.Prelude.{◌≡◌, ℕ, List, ◌++◌, length}
pub use Rattle.unix_bytes.specs.IsPrefixOf.{IsPrefixOf}
use Rattle.unix_path.specs.Parts.{values}
use Rattle.unix_path.specs.Rest.{rest}

-- w ends with v
abbrev pub IsSuffixOf : {A : Type 0} → List A → List A → Type 0
IsSuffixOf {A} v w = (before : List A) × (before ++ v ≡ w)

-- the rest of s after as many components as `base` has
abbrev pub stripped_of : List ℕ → List ℕ → List ℕ
stripped_of s base = rest s (length (values base)) 0
