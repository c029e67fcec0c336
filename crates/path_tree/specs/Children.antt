-- The children of a base: the keys that have one code more than the key of the base, and with which
-- keys of a tree start.
use Rattle.std.specs.Prelude.{ℕ, ◌+◌, ◌==◌, ◌&&◌, ◌++◌, Bool, List, drop, eqb, filter, length, map}
use Rattle.std.specs.Prelude.{nat_lt, take, Option, Some, None, if◌then◌else◌}
use Rattle.std.specs.Borrow.{Bor}
use Rattle.std.specs.List.{dedup, position_or_len, starts_with}
use Rattle.std.specs.Option.{option_copied}
use Rattle.std.specs.Ordering.{is_eq}
use Rattle.path_keys.specs.Ranges.{bytes_cmp}

-- the length of the first of these codes: 2 if the bytes begin with 0, and otherwise the number of
-- bytes up to and including the first 0
abbrev pub first_code_len : List ℕ → ℕ
first_code_len codes =
    let n = position_or_len (λ b. b == 0) codes in if n == 0 then 2 else n + 1

-- the child of base for the key: the bytes of base, and the first code that follows them in the key
abbrev pub child_of : List ℕ → List ℕ → List ℕ
child_of base key =
    let codes = drop (length base) key in base ++ take (first_code_len codes) codes

-- the key starts with base, and is longer
abbrev pub is_below : List ℕ → List ℕ → Bool
is_below base key = starts_with eqb key base && nat_lt (length base) (length key)

-- the child of base with which the key of the entry e starts, and the value of e if the child is
-- the whole key of e
abbrev pub child_entry : {V : Type 0} → List ℕ → List ℕ × V → List ℕ × Option V
child_entry base e =
    let child = child_of base e.0 in
    (child, if length child == length e.0 then Some e.1 else None)

-- both entries have the same key
abbrev pub have_same_key : {A : Type 0} → List ℕ × A → List ℕ × A → Bool
have_same_key e other = is_eq (bytes_cmp other.0 e.0)

-- the children of base with which the keys of the entries start, in the order of the entries; of
-- adjacent children with the same key only the first stays, which in path order is the child that
-- is the whole key of an entry, if there is one
abbrev pub children_of : {V : Type 0} → List ℕ → List (List ℕ × V) → List (List ℕ × Option V)
children_of base entries =
    dedup have_same_key (map (child_entry base) (filter (λ e. is_below base e.0) entries))

-- the bytes of a borrowed key, with the value that is borrowed with it, if any
abbrev pub borrowed_child : {V : Type 0} → Bor (List ℕ) × Option (Bor V) → List ℕ × Option V
borrowed_child child = (child.0.now, option_copied child.1)
