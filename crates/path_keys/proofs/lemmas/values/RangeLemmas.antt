-- The byte strings that begin with a key are those in its range.
use Rattle.std.proofs.Common.{◌≡◌, ◌↔◌, ◌<◌, ℕ, ◌+◌, ◌-◌, true, List, [], ◌∷◌, ◌++◌, length}
use Rattle.std.proofs.Common.{Option, Some, None}
use Rattle.std.proofs.Common.{Ordering, Less, Equal, Greater, slice_index, slice_set, refl, sym, ap}
use Rattle.std.proofs.Common.{ap₂, ◌∙◌, subst, arith, ⊎_elim}
use Rattle.std.proofs.lemmas.Bool.{cases_order}
use Rattle.std.proofs.lemmas.Bool.Decides.{nat_tests}
use Rattle.std.proofs.lemmas.Cmp.{nat_cmp_total, tied_itself}
use Rattle.std.specs.Cmp.{nat_cmp_is}
use Rattle.std.specs.Ordering.{is_le, nat_cmp, ordering_then}
use Rattle.unix_path.specs.Prefixes.{IsPrefixOf}
use Rattle.path_keys.specs.Ranges.{bytes_cmp, end_of, InRange, IsRangeEnd}

-- the bytes b and bs, with the last one raised by one
abbrev last_raised : ℕ → List ℕ → List ℕ
last_raised b bs = slice_set (b ∷ bs) (length bs) (slice_index (b ∷ bs) (length bs) + 1)

-- `key` is not less than the bytes b and bs, and less than these bytes with the last one raised by
-- one
abbrev LiesIn : ℕ → List ℕ → List ℕ → Type 0
LiesIn b bs key = (is_le (bytes_cmp (b ∷ bs) key) ≡ true)
    × (bytes_cmp key (last_raised b bs) ≡ Less)

-- if a is less than b, comparing a with b leads to `Less`
pub less_is : (a b : ℕ) → a < b → nat_cmp a b ≡ Less
less_is a b h = sym (nat_cmp_is a b Less h)

-- if b is less than a, comparing a with b leads to `Greater`
pub greater_is : (a b : ℕ) → b < a → nat_cmp a b ≡ Greater
greater_is a b h = sym (nat_cmp_is a b Greater h)

-- comparing a with itself leads to `Equal`
pub equal_is : (a : ℕ) → nat_cmp a a ≡ Equal
equal_is = tied_itself nat_cmp_total

-- if b is less than c, bytes that begin with c are not less than the single byte `b + 1`
above-not_less : (b c : ℕ) (key : List ℕ) → b < c → bytes_cmp (c ∷ key) ((b + 1) ∷ []) ≡ Less → ⊥
above-not_less b c key l h = at_end key (tied (bytes_cmp key []) h)
  where
    tied : (o : Ordering) → ordering_then (nat_cmp c (b + 1)) o ≡ Less → o ≡ Less
    tied o e = grind (arith, nat_tests)

    at_end : (key : List ℕ) → bytes_cmp key [] ≡ Less → ⊥
    at_end [] e = cc
    at_end (x ∷ key) e = cc

-- if `key` is in the range of the bytes b and bs, it begins with them
lies_in-begins : (b : ℕ) (bs key : List ℕ) → LiesIn b bs key → IsPrefixOf (b ∷ bs) key
lies_in-begins b bs [] h = absurd (let d = h.0 in cc)
lies_in-begins b [] (c ∷ key) h = ⊎_elim
    (λ same. (key, ap (λ x. x ∷ key) same))
    (λ other. absurd (⊎_elim (λ less. above-not_less b c key less h.1)
    (λ more. let d = rw (greater_is b c more) at h.0 in cc) other))
    (cases_order b c)
lies_in-begins b (d ∷ bs) (c ∷ key) h = ⊎_elim
    (λ same.
    let there : nat_cmp b c ≡ Equal = ap (nat_cmp b) (sym same) ∙ equal_is b in
    let back : nat_cmp c b ≡ Equal = ap (nat_cmp c) same ∙ equal_is c in
    let first = rw there at h.0 in
    let last = rw back at h.1 in
    let others = lies_in-begins d bs key (first, last) in
    (others.0, ap₂ (λ x xs. x ∷ xs) same others.1))
    (λ other. absurd (⊎_elim (λ less. let d = rw (greater_is c b less) at h.1 in cc)
    (λ more. let d = rw (greater_is b c more) at h.0 in cc) other))
    (cases_order b c)

-- the empty byte string is less than or equal to any bytes
nil-le : (more : List ℕ) → is_le (bytes_cmp [] more) ≡ true
nil-le [] = refl
nil-le (x ∷ more) = refl

-- bytes that begin with b and bs are in the range of b and bs
begins-lies_in : (b : ℕ) (bs more : List ℕ) → LiesIn b bs ((b ∷ bs) ++ more)
begins-lies_in b [] more =
    (rw (equal_is b) (nil-le more), rw (less_is b (b + 1) (omega arith)) refl)
begins-lies_in b (d ∷ bs) more =
    let others = begins-lies_in d bs more in
    (rw (equal_is b) others.0, rw (equal_is b) others.1)

-- `key` begins with `base` if and only if it is in the range of `base`
pub begins-lies_under : (base key : List ℕ)
    → IsPrefixOf base key ↔ InRange base (end_of base) key
unfolding end_of
begins-lies_under [] key = (λ begins. (nil-le key, tt), λ h. (key, refl))
begins-lies_under (b ∷ bs) key = (
  λ begins. subst (LiesIn b bs) begins.1 (begins-lies_in b bs begins.0),
  λ h. lies_in-begins b bs key h,
)

-- the range of the empty key has no end
pub end_of-nil : end_of [] ≡ None
unfolding end_of
end_of-nil = refl

-- if `key` is not empty, the end of its range is the key with its last byte raised by one
pub end_of-some : (key : List ℕ) → 0 < length key
    → end_of key ≡ Some (slice_set key (length key - 1) (slice_index key (length key - 1) + 1))
unfolding end_of
end_of-some [] l = absurd (omega arith)
end_of-some (b ∷ bs) l =
    let n : length bs ≡ length (b ∷ bs) - 1 = omega arith in
    ap (λ k. Some (slice_set (b ∷ bs) k (slice_index (b ∷ bs) k + 1))) n

-- if `key` is empty, all byte strings begin with it, and its range has no end
pub range_end-none : (key : List ℕ) → length key ≡ 0 → IsRangeEnd key None
range_end-none [] l s = (λ h. (s, refl), λ begins. (nil-le s, tt))
range_end-none (b ∷ bs) l s = absurd (omega arith)

-- if `key` is not empty, the byte strings that begin with it are those from `key` on that are less
-- than the key with its last byte raised by one
pub range_end-some : (key : List ℕ) → 0 < length key → IsRangeEnd key
    (Some (slice_set key (length key - 1) (slice_index key (length key - 1) + 1)))
range_end-some key l s =
    let both = begins-lies_under key s in
    let P : Option (List ℕ) → Type 0 = λ end. InRange key end s ↔ IsPrefixOf key s in
    subst P (end_of-some key l) (both.1, both.0)
