-- Testing many bytes at once for a possible end candidate: the separator m before another m or
-- before the dot p.
use Rattle.std.proofs.Common.{◌≡◌, ℕ, ◌+◌, ◌<◌, ◌≤◌, Bool, true, false, not, eqb, ◌&&◌, ◌||◌, List}
use Rattle.std.proofs.Common.{length, get_or, bit_and, bit_or, refl, sym, ap, ap₂, subst, ◌∙◌}
use Rattle.std.proofs.Common.{arith, eqb-true}
use Rattle.std.specs.Int.Bits.{bit_xor, xor_assoc, xor_self, xor_zero_r}
use Rattle.std.specs.Simd.Lanes.{chunk, zip2}
use Rattle.std.proofs.lemmas.Bool.{eqb-false}
use Rattle.std.proofs.lemmas.Nat.{le_or_l, le_or_r}
use Rattle.std.proofs.lemmas.Simd.{length-zip2, get_or-zip2, length-chunk}
use Rattle.std.proofs.lemmas.Grind.{common_steps}
use Rattle.unix_bytes.proofs.lemmas.vectors.TestLaneLemmas.{with, length-with, get_or-with, hits}
use Rattle.unix_bytes.proofs.lemmas.vectors.TestLaneLemmas.{Tells, Tells-hits, TellFrom, lane_at}
use Rattle.unix_bytes.proofs.lemmas.vectors.TestLaneLemmas.{mask_of, found_set, none_set}
use Rattle.unix_path.specs.NameRunEnds.{is_end_candidate_of, BothLackBits, IsRoughEndCandidate}

abbrev odd : ℕ → ℕ → List ℕ → List ℕ → List ℕ
odd n m here next = zip2 (λ a b. bit_or a b) (with (λ a b. bit_xor a b) n here m)
    (with (λ a b. bit_and a b) n next 208)

length-odd : (n m : ℕ) (here next : List ℕ) → length here ≡ n → length next ≡ n
    → length (odd n m here next) ≡ n
length-odd n m here next l k = grind (arith, length-with, length-zip2)

get_or-odd : (n m : ℕ) (here next : List ℕ) (i : ℕ) → length here ≡ n → length next ≡ n → i < n
    → get_or (odd n m here next) i 0
    ≡ bit_or (bit_xor (get_or here i 0) m) (bit_and (get_or next i 0) 208)
get_or-odd n m here next i l k few =
    let xs = length-with (λ a b. bit_xor a b) n here m l in
    let ys = length-with (λ a b. bit_and a b) n next 208 k in
    get_or-zip2 (λ a b. bit_or a b) _ _ i 0 0 0 (omega (arith, xs)) (omega (arith, ys))
    ∙ ap₂ bit_or (get_or-with (λ a b. bit_xor a b) n here m i l few)
    (get_or-with (λ a b. bit_and a b) n next 208 i k few)

-- if m and p have none of the bits of 208, and `(x ^ m) | (y & 208)` is not 0, then x followed by y
-- is no end candidate: x isn't m, or y is neither m nor p
other_at : (m p x y : ℕ) → BothLackBits m p
    → eqb (bit_or (bit_xor x m) (bit_and y 208)) 0 ≡ false
    → (eqb x m && (eqb y m || eqb y p)) ≡ false
other_at m p x y h none = grind (arith, common_steps)

negated : (b : Bool) → not b ≡ false → b ≡ true
negated true h = refl
negated false h = absurd (cc)

unnegated : (b : Bool) → not b ≡ true → b ≡ false
unnegated false h = refl
unnegated true h = absurd (let k : false ≡ true = h in cc)

-- the lanes that show for which bytes x, of the n bytes of s that start at `at`,
-- `(x ^ m) | (y & 208)` is 0, where y is the byte after x
abbrev lanes : ℕ → ℕ → List ℕ → ℕ → List ℕ
lanes n m s at = hits n (odd n m (chunk at n s) (chunk (at + 1) n s)) 0

-- if n is 1 to 64, and s has more than n bytes from `at` on, `lanes` show for which x of the first
-- n of them `(x ^ m) | (y & 208)` is 0, where y is the byte after x
may_end_shown : (n m : ℕ) (s : List ℕ) (at : ℕ) → 0 < n → n ≤ 64 → at + n + 1 ≤ length s
    → TellFrom n (lanes n m s at)
    (λ i. eqb (bit_or (bit_xor (get_or s i 0) m) (bit_and (get_or s (i + 1) m) 208)) 0) at
may_end_shown n m s at some low l =
    let here = chunk at n s in
    let next = chunk (at + 1) n s in
    let lh = length-chunk at n s (omega arith) in
    let ln = length-chunk (at + 1) n s (omega arith) in
    record {
      some = some;
      few = low;
      each = λ i few. subst (Tells n (lanes n m s at) i) (ap (λ x. eqb x 0)
          (get_or-odd n m here next i lh ln few
          ∙ ap₂ (λ x y. bit_or (bit_xor x m) (bit_and y 208))
          (lane_at n 0 s at i (at + i) (omega arith) few (omega arith))
          (lane_at n m s (at + 1) i (at + i + 1) (omega arith) few (omega arith))))
          (Tells-hits n (odd n m here next) 0 i (length-odd n m here next lh ln) few);
    }

-- if m and p have none of the bits of 208, n is 1 to 64, s has more than n bytes from `at` on, and
-- the mask of `lanes` is 0, then none of the first n of these bytes is an end candidate
pub none_told : (n m p : ℕ) (s : List ℕ) (at : ℕ) → BothLackBits m p → 0 < n → n ≤ 64
    → at + n + 1 ≤ length s → not (eqb (mask_of (lanes n m s at)) 0) ≡ false
    → (i : ℕ) → at ≤ i → i < at + n → is_end_candidate_of m p s i ≡ false
none_told n m p s at bits some low l none i from to =
    other_at m p (get_or s i 0) (get_or s (i + 1) m) bits
    ((none_set (may_end_shown n m s at some low l)
    (eqb-true (mask_of (lanes n m s at)) 0 (negated _ none))).none_before i from to)

-- if `(x ^ m) | (y & 208)` is 0, then x is m, and y has none of the bits of 208
near_at : (m x y : ℕ) → bit_or (bit_xor x m) (bit_and y 208) ≡ 0
    → (x ≡ m) × (bit_and y 208 ≡ 0)
near_at m x y e =
    let same : bit_xor x m ≡ 0 = omega (arith, e, le_or_l (bit_xor x m) (bit_and y 208)) in (
      sym (xor_zero_r x) ∙ ap (bit_xor x) (sym (xor_self m)) ∙ sym (xor_assoc x m m)
          ∙ ap (λ b. bit_xor b m) same,
      omega (arith, e, le_or_r (bit_xor x m) (bit_and y 208)),
    )

-- if n is 1 to 64, s has more than n bytes from `at` on, and the mask of `lanes` is not 0, then one
-- of the first n of these bytes is m, and the byte after it has none of the bits of 208
pub one_told : (n m : ℕ) (s : List ℕ) (at : ℕ) → 0 < n → n ≤ 64 → at + n + 1 ≤ length s
    → not (eqb (mask_of (lanes n m s at)) 0) ≡ true
    → (i : ℕ) × (at ≤ i) × (i < at + n) × IsRoughEndCandidate m s i
one_told n m s at some low l found =
    let told = may_end_shown n m s at some low l in
    let first = found_set told (eqb-false (mask_of (lanes n m s at)) 0 (unnegated _ found)) in
    grind (arith, near_at)
