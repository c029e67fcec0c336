-- The component of a piece, its bytes and its name.
use Rattle.std.proofs.Common.{arith}
use Rattle.std.proofs.Common.{◌≡◌, ℕ, if◌then◌else◌, List, Some, ap}
use Rattle.std.specs.Str.{bytes_eq}
use Rattle.std.proofs.lemmas.Option.{same_Some, none-some}
use Rattle.std.proofs.lemmas.Slice.Eq.{bytes_eq-Decides}
use Rattle.unix_bytes.proofs.lemmas.lists.ListLemmas.{by_test}
use Rattle.unix_path.specs.Names.{name_of}
use Rattle.unix_path.specs.Parts.{Value, RootDir, CurDir, ParentDir, Normal, cur_dir}
use Rattle.unix_path.specs.Parts.{value_bytes, value_of_piece}

-- the component of a piece at the beginning of a string, where `.` is a component
abbrev pub first_value : List ℕ → Value
first_value bytes = if bytes_eq bytes cur_dir then CurDir else value_of_piece bytes

-- the component of the piece p has the bytes of p
pub value_bytes-piece : (p : List ℕ) → value_bytes (value_of_piece p) ≡ p
value_bytes-piece p = grind (arith, bytes_eq-Decides)

-- the component of a piece p at the beginning of a string has the bytes of p
pub value_bytes-first : (p : List ℕ) → value_bytes (first_value p) ≡ p
value_bytes-first p = grind (arith, bytes_eq-Decides)

-- the component of the piece p is not the root
pub no_root_piece : (p : List ℕ) → value_of_piece p ≡ RootDir → ⊥
no_root_piece p = grind arith

-- the component of a piece p at the beginning of a string is not the root
pub no_root_first : (p : List ℕ) → first_value p ≡ RootDir → ⊥
no_root_first p = by_test (bytes_eq p cur_dir) (λ e. rw e (λ h. cc)) (λ e. rw e (no_root_piece p))

-- if the component v has the name `name`, v is this name
pub name_of-some : (v : Value) (name : List ℕ) → name_of v ≡ Some name → v ≡ Normal name
name_of-some RootDir name e = absurd (none-some name e)
name_of-some CurDir name e = absurd (none-some name e)
name_of-some ParentDir name e = absurd (none-some name e)
name_of-some (Normal bytes) name e = ap Normal (same_Some bytes name e)
