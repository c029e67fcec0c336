-- The order of values and of value lists (Rust's order of `Component` and `Path`).
use Rattle.std.specs.Prelude.{◌≡◌, ℕ, Bool, List}
use Rattle.std.specs.declared.cmp.Ordering.{Ordering}
use Rattle.std.specs.declared.cmp.Ordering.TheVariants.{Less}
use Rattle.std.specs.Ordering.{is_eq, nat_cmp, then_cmp, on}
use Rattle.std.specs.Cmp.Lexicographic.{slice_cmp}
use Rattle.unix_path.specs.Parts.{Value, RootDir, CurDir, ParentDir, Normal, value_bytes}

-- the position of a value's kind in the order of kinds: the root, `.`, `..`, names
abbrev pub rank : Value → ℕ
rank RootDir = 0
rank CurDir = 1
rank ParentDir = 2
rank (Normal name) = 3

-- the order of two values: by kind, and for two names by their bytes
abbrev pub value_cmp : Value → Value → Ordering
value_cmp = then_cmp (on rank nat_cmp) (on value_bytes (slice_cmp nat_cmp))

-- v and w are the same value
abbrev pub same_value : Value → Value → Bool
same_value v w = is_eq (value_cmp v w)

-- the order of two lists: by the first values that differ; a list sorts before the longer lists
-- that begin with it
abbrev pub values_cmp : List Value → List Value → Ordering
values_cmp = slice_cmp value_cmp

-- v is less than w
abbrev pub IsBefore : List Value → List Value → Type 0
IsBefore v w = values_cmp v w ≡ Less
