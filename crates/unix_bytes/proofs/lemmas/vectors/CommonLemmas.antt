-- Common prefixes, and several bytes of two strings compared at once.
use Rattle.std.proofs.Common.{◌≡◌, ℕ, zero, suc, ◌+◌, ◌^◌, ◌%◌, ◌<◌, ◌≤◌, Bool, true, false}
use Rattle.std.proofs.Common.{cond, not, eqb, List, [], ◌∷◌, length, map, get_or, ⊎_elim}
use Rattle.std.proofs.Common.{refl, sym, ap, ◌∙◌, arith, w8, eq-eqb, ne_eqb}
use Rattle.std.specs.Int.Count.{count_trailing_zeros}
use Rattle.std.specs.List.{common_prefix_len, prefix_len}
use Rattle.std.specs.Simd.Lanes.{zip2, chunk, mask_l, top}
use Rattle.std.proofs.lemmas.Bool.{cases_Bool}
use Rattle.std.proofs.lemmas.List.{length-map}
use Rattle.std.proofs.lemmas.List.Sums.{common_prefix_len-le}
use Rattle.std.proofs.lemmas.Simd.{tops_compared, mask_l-mod, first_set_mask_l}
use Rattle.std.proofs.lemmas.Simd.{length-chunk, get_or-chunk}
use Rattle.unix_bytes.proofs.lemmas.vectors.HitLemmas.{in_window}

-- if a and b have at least n bytes and the same byte at each index below n, and if one of them has
-- only n bytes or they differ at index n, then the common prefix of a and b has n bytes
pub common_prefix_len-is : (a b : List ℕ) (n : ℕ) → n ≤ length a → n ≤ length b
    → ((k : ℕ) → k < n → get_or a k 0 ≡ get_or b k 0)
    → (n < length a → n < length b → eqb (get_or a n 0) (get_or b n 0) ≡ false)
    → n ≡ common_prefix_len eqb a b
common_prefix_len-is (x ∷ a) (y ∷ b) zero l m same differs = grind arith
common_prefix_len-is (x ∷ a) (y ∷ b) (suc n) l m same differs =
    let first : eqb x y ≡ true = eq-eqb x y (same 0 (omega arith)) in
    grind (
      arith,
      common_prefix_len-is a b n (omega arith) (omega arith) (λ k h. same (suc k) (omega arith))
          (λ i j. differs (omega arith) (omega arith)),
    )
common_prefix_len-is a b n l m same differs = omega arith

-- a and b have the same byte at each index k of their common prefix
pub common_prefix_len-same : (a b : List ℕ) (k : ℕ) → k < common_prefix_len eqb a b
    → get_or a k 0 ≡ get_or b k 0
common_prefix_len-same (x ∷ a) (y ∷ b) zero l = grind arith
common_prefix_len-same (x ∷ a) (y ∷ b) (suc k) l =
    ⊎_elim
    (λ (same : eqb x y ≡ true).
    let m : suc k < 1 + common_prefix_len eqb a b = rw same at l in
    common_prefix_len-same a b k (omega arith))
    (λ (other : eqb x y ≡ false). let m : suc k < 0 = rw other at l in absurd (omega arith))
    (cases_Bool (eqb x y))
common_prefix_len-same a b k l = absurd (omega arith)

-- if a and b both continue after their common prefix of n bytes, they differ at index n
pub common_prefix_len-differs : (a b : List ℕ) (n : ℕ) → n ≡ common_prefix_len eqb a b
    → n < length a
    → n < length b → eqb (get_or a n 0) (get_or b n 0) ≡ false
common_prefix_len-differs (x ∷ a) (y ∷ b) zero e l m = grind arith
common_prefix_len-differs (x ∷ a) (y ∷ b) (suc n) e l m =
    ⊎_elim
    (λ (same : eqb x y ≡ true).
    let f : suc n ≡ 1 + common_prefix_len eqb a b = rw same at e in
    common_prefix_len-differs a b n (omega arith) (omega arith) (omega arith))
    (λ (other : eqb x y ≡ false). let f : suc n ≡ 0 = rw other at e in absurd (omega arith))
    (cases_Bool (eqb x y))
common_prefix_len-differs a b n e l m = absurd (omega arith)

-- the two bytes of a pair are not the same
abbrev differ : ℕ × ℕ → Bool
differ pair = not (eqb pair.0 pair.1)

-- the pairs of the bytes of a and b with the same index
abbrev pairs : List ℕ → List ℕ → List (ℕ × ℕ)
pairs a b = zip2 (λ x y. (x, y)) a b

-- zipping a and b with the test whether two bytes differ is the same as mapping `differ` over the
-- pairs of a and b
zip2-pairs : (a b : List ℕ) → zip2 (λ x y. not (eqb x y)) a b ≡ map differ (pairs a b)
zip2-pairs (x ∷ a) (y ∷ b) = ap (λ ts. not (eqb x y) ∷ ts) (zip2-pairs a b)
zip2-pairs a b = refl

-- the number of pairs of a and b before the first pair whose bytes differ is the length of the
-- common prefix of a and b
prefix_len-pairs : (a b : List ℕ)
    → prefix_len (λ pair. not (differ pair)) (pairs a b) ≡ common_prefix_len eqb a b
prefix_len-pairs (x ∷ a) (y ∷ b) = grind (arith, prefix_len-pairs a b)
prefix_len-pairs a b = refl

-- if a and b have the same length, they have as many pairs as each of them has bytes
length-pairs : (a b : List ℕ) → length a ≡ length b → length (pairs a b) ≡ length a
length-pairs [] b e = refl
length-pairs (x ∷ a) [] e = absurd (omega arith)
length-pairs (x ∷ a) (y ∷ b) e = ap (λ n. suc n) (length-pairs a b (omega arith))

-- the mask of the pairs of a and b, as the code computes it, with the lowest bit for the first
-- pair: a bit is set if and only if the two bytes of its pair differ
abbrev other_mask : List ℕ → List ℕ → ℕ
other_mask a b = mask_l (map (top 7) (zip2 (λ x y. cond (not (eqb x y)) 255 0) a b)) % 2 ^ 64

-- if a and b have n bytes each, and n is at most 64, `other_mask a b` has a bit set for each pair
-- whose bytes differ, and no other
other_mask-pairs : (a b : List ℕ) (n : ℕ) → n ≤ 64 → length a ≡ n → length b ≡ n
    → other_mask a b ≡ mask_l (map differ (pairs a b))
other_mask-pairs a b n few l m =
    let size : length (map differ (pairs a b)) ≤ 64 =
    omega (arith, length-map (pairs a b) differ, length-pairs a b (l ∙ sym m)) in
    ap (λ ts. mask_l ts % 2 ^ 64) (tops_compared w8 (λ x y. not (eqb x y)) a b ∙ zip2-pairs a b)
    ∙ mask_l-mod (map differ (pairs a b)) 64 size

-- if a and b have n bytes each, and n is at most 64, the length of their common prefix is n if no
-- bit of `other_mask a b` is set, and otherwise the index of the lowest bit set
first_other : (a b : List ℕ) (n : ℕ) → n ≤ 64 → length a ≡ n → length b ≡ n
    → cond (eqb (other_mask a b) 0) n (count_trailing_zeros 64 (other_mask a b))
    ≡ common_prefix_len eqb a b
first_other a b n few l m =
    ap (λ k. cond (eqb k 0) n (count_trailing_zeros 64 k)) (other_mask-pairs a b n few l m)
    ∙ first_set_mask_l differ (pairs a b) n (length-pairs a b (l ∙ sym m) ∙ l) few
    ∙ prefix_len-pairs a b

-- of the n bytes of a and the n bytes of b from index `at` on, the first `len` are the same in a
-- and b; if `len` is less than n, a and b differ at index `at` + `len`
pub record CommonInLanes (a b : List ℕ) (n at len : ℕ) : Type 0 where
  pub in_range : len ≤ n
  pub same : (k : ℕ) → at ≤ k → k < at + len → get_or a k 0 ≡ get_or b k 0
  pub differs : len < n → eqb (get_or a (at + len) 0) (get_or b (at + len) 0) ≡ false

-- if a and b both have n bytes from index `at` on, and the common prefix of these two runs of bytes
-- has `len` bytes, then `CommonInLanes a b n at len` holds
in_lanes : (a b : List ℕ) (n at len : ℕ) → at + n ≤ length a → at + n ≤ length b
    → len ≡ common_prefix_len eqb (chunk at n a) (chunk at n b) → CommonInLanes a b n at len
in_lanes a b n at len l m is =
    grind (
      arith,
      common_prefix_len-le,
      length-chunk,
      in_window,
      common_prefix_len-same,
      get_or-chunk,
      common_prefix_len-differs,
    )

-- if a and b have n bytes from index `at` on, at most 64, and no bit of `other_mask` of these bytes
-- is set, these bytes are the same in a and b
pub none_other : (a b : List ℕ) (n at : ℕ) → n ≤ 64 → at + n ≤ length a → at + n ≤ length b
    → other_mask (chunk at n a) (chunk at n b) ≡ 0 → CommonInLanes a b n at n
none_other a b n at few l m none =
    let mask = other_mask (chunk at n a) (chunk at n b) in
    in_lanes a b n at n l m
    (sym (ap (λ c. cond c n (count_trailing_zeros 64 mask)) (eq-eqb mask 0 none))
    ∙ first_other (chunk at n a) (chunk at n b) n few (length-chunk at n a l)
    (length-chunk at n b m))

-- if a and b have n bytes from index `at` on, at most 64, and some bit of `other_mask` of these
-- bytes is set, the index of the lowest bit set is the number of bytes from `at` on before the
-- first at which a and b differ
pub some_other : (a b : List ℕ) (n at : ℕ) → n ≤ 64 → at + n ≤ length a → at + n ≤ length b
    → (other_mask (chunk at n a) (chunk at n b) ≡ 0 → ⊥)
    → CommonInLanes a b n at
    (count_trailing_zeros 64 (other_mask (chunk at n a) (chunk at n b)))
some_other a b n at few l m some =
    let mask = other_mask (chunk at n a) (chunk at n b) in
    in_lanes a b n at (count_trailing_zeros 64 mask) l m
    (sym (ap (λ c. cond c n (count_trailing_zeros 64 mask)) (ne_eqb mask 0 some))
    ∙ first_other (chunk at n a) (chunk at n b) n few (length-chunk at n a l)
    (length-chunk at n b m))
