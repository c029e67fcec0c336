-- The range of the byte strings that begin with a key, in the order of a store.
use Rattle.std.specs.Prelude.{◌≡◌, ◌↔◌, ℕ, ◌+◌, true, List, [], ◌∷◌, length, Option, Some, None}
use Rattle.std.specs.Prelude.{IfSome, slice_index, slice_set}
use Rattle.std.specs.declared.cmp.Ordering.{Ordering}
use Rattle.std.specs.declared.cmp.Ordering.TheVariants.{Less}
use Rattle.std.specs.Ordering.{is_le, nat_cmp}
use Rattle.std.specs.Cmp.Lexicographic.{slice_cmp}
use Rattle.unix_path.specs.Prefixes.{IsPrefixOf}

-- the order of byte strings, in which a store keeps its keys
abbrev pub bytes_cmp : List ℕ → List ℕ → Ordering
bytes_cmp = slice_cmp nat_cmp

-- the bytes are not less than `first`, and less than `end` if there is an end
abbrev pub InRange : List ℕ → Option (List ℕ) → List ℕ → Type 0
InRange first end s = (is_le (bytes_cmp first s) ≡ true)
    × IfSome end (λ end. bytes_cmp s end ≡ Less)

-- any byte string is in the range from the key up to `end` if and only if it begins with the key
abbrev pub IsRangeEnd : List ℕ → Option (List ℕ) → Type 0
IsRangeEnd key end = (s : List ℕ) → InRange key end s ↔ IsPrefixOf key s

-- the key with its last byte raised by one; None if the key is empty
unfoldable pub end_of : List ℕ → Option (List ℕ)
end_of [] = None
end_of (b ∷ bs) =
    let last = length bs in Some (slice_set (b ∷ bs) last (slice_index (b ∷ bs) last + 1))
