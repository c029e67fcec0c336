-- Lanes that each show whether a test holds, and the mask made of them.
use Rattle.std.proofs.Common.{◌≡◌, ℕ, ◌+◌, ◌-◌, ◌%◌, ◌^◌, ◌<◌, ◌≤◌, Bool, true, false, cond, not}
use Rattle.std.proofs.Common.{eqb, ◌&&◌, ◌||◌, List, [], ◌∷◌, length, map, get_or, replicate}
use Rattle.std.proofs.Common.{bit_and, bit_or, refl, sym, ap, ◌∙◌, arith, eq-eqb}
use Rattle.std.specs.Int.Count.{count_trailing_zeros}
use Rattle.std.specs.List.{prefix_len}
use Rattle.std.specs.Simd.Lanes.{chunk, zip2, mask_l, top}
use Rattle.std.proofs.lemmas.Bool.{not-true}
use Rattle.std.proofs.lemmas.List.{get_or-replicate, length-map, length-replicate}
use Rattle.std.proofs.lemmas.List.Sums.{prefix_len-le-length, prefix_len_passes, prefix_len_stops}
use Rattle.std.proofs.lemmas.Simd.{length-zip2, get_or-zip2, first_set_mask_l}
use Rattle.std.proofs.lemmas.Simd.{mask_l-mod}
use Rattle.std.proofs.lemmas.Grind.{common_steps}

-- the lane of a test whose result is b: 255, which has all bits set, if b is true, and otherwise 0
abbrev pub lane : Bool → ℕ
lane b = cond b 255 0

and_lane : (a b : Bool) → bit_and (lane a) (lane b) ≡ lane (a && b)
and_lane a b = grind arith

or_lane : (a b : Bool) → bit_or (lane a) (lane b) ≡ lane (a || b)
or_lane a b = grind arith

pub top_lane : (a : Bool) → top 7 (lane a) ≡ a
top_lane a = grind arith

-- f applied to each of the n bytes xs and to y
abbrev pub with : (ℕ → ℕ → ℕ) → ℕ → List ℕ → ℕ → List ℕ
with f n xs y = zip2 f xs (replicate n y)

pub length-with : (f : ℕ → ℕ → ℕ) (n : ℕ) (xs : List ℕ) (y : ℕ) → length xs ≡ n
    → length (with f n xs y) ≡ n
length-with f n xs y l = grind (arith, length-zip2, length-replicate)

pub get_or-with : (f : ℕ → ℕ → ℕ) (n : ℕ) (xs : List ℕ) (y i : ℕ) → length xs ≡ n → i < n
    → get_or (with f n xs y) i 0 ≡ f (get_or xs i 0) y
get_or-with f n xs y i l few = grind (arith, common_steps, get_or-replicate n i y 0 few)

-- the lanes that show, for each of the n bytes xs, whether the test t is true of this byte and y
abbrev pub tested : (ℕ → ℕ → Bool) → ℕ → List ℕ → ℕ → List ℕ
tested t n xs y = with (λ a b. lane (t a b)) n xs y

-- the lanes that show which of the n bytes xs are y
abbrev pub hits : ℕ → List ℕ → ℕ → List ℕ
hits n xs y = tested eqb n xs y

-- the lanes that show at which indices the tests of the lanes xs and ys are both true
abbrev pub both : List ℕ → List ℕ → List ℕ
both xs ys = zip2 (λ a b. bit_and a b) xs ys

-- the lanes that show at which indices at least one of the tests of the lanes xs and ys is true
abbrev pub either : List ℕ → List ℕ → List ℕ
either xs ys = zip2 (λ a b. bit_or a b) xs ys

-- xs are n lanes, and the lane at index i shows b
pub record Tells (n : ℕ) (xs : List ℕ) (i : ℕ) (b : Bool) : Type 0 where
  pub size : length xs ≡ n
  pub is : get_or xs i 0 ≡ lane b

pub Tells-tested : (t : ℕ → ℕ → Bool) (n : ℕ) (xs : List ℕ) (y i : ℕ) → length xs ≡ n → i < n
    → Tells n (tested t n xs y) i (t (get_or xs i 0) y)
Tells-tested t n xs y i l few = grind (arith, length-with, get_or-with)

pub Tells-hits : (n : ℕ) (xs : List ℕ) (y i : ℕ) → length xs ≡ n → i < n
    → Tells n (hits n xs y) i (eqb (get_or xs i 0) y)
Tells-hits = Tells-tested eqb

Tells-zip2 : (f : ℕ → ℕ → ℕ) (t : Bool → Bool → Bool)
    → ((a b : Bool) → f (lane a) (lane b) ≡ lane (t a b)) → (n : ℕ) (xs ys : List ℕ) (i : ℕ)
    (a b : Bool) → i < n → Tells n xs i a → Tells n ys i b → Tells n (zip2 f xs ys) i (t a b)
Tells-zip2 f t same n xs ys i a b few h k = grind (arith, length-zip2, get_or-zip2)

pub Tells-both : {n : ℕ} {xs ys : List ℕ} {i : ℕ} {a b : Bool} → i < n → Tells n xs i a
    → Tells n ys i b → Tells n (both xs ys) i (a && b)
Tells-both {n} {xs} {ys} {i} {a} {b} =
    Tells-zip2 bit_and (λ a b. a && b) and_lane n xs ys i a b

pub Tells-either : {n : ℕ} {xs ys : List ℕ} {i : ℕ} {a b : Bool} → i < n → Tells n xs i a
    → Tells n ys i b → Tells n (either xs ys) i (a || b)
Tells-either {n} {xs} {ys} {i} {a} {b} =
    Tells-zip2 bit_or (λ a b. a || b) or_lane n xs ys i a b

-- if s has n bytes from index `at` on, i is less than n, and `at` + i is k, the byte at index i of
-- these n bytes is the byte of s at index k; d, the default past the end of s, doesn't matter
pub lane_at : (n d : ℕ) (s : List ℕ) (at i k : ℕ) → at + n ≤ length s → i < n → at + i ≡ k
    → get_or (chunk at n s) i 0 ≡ get_or s k d
lane_at n d s at i k l few e = grind (arith, common_steps)

-- the mask that the code computes from the lanes xs
abbrev pub mask_of : List ℕ → ℕ
mask_of xs = mask_l (map (top 7) xs) % 2 ^ 64

-- xs are n lanes, from 1 to 64, and the lane at each index i shows whether the test is true of `at`
-- + i
pub record TellFrom (n : ℕ) (xs : List ℕ) (test : ℕ → Bool) (at : ℕ) : Type 0 where
  pub some : 0 < n
  pub few : n ≤ 64
  pub each : (i : ℕ) → i < n → Tells n xs i (test (at + i))

-- the test is false of the first `len` of the n indices from `at` on
pub record FailsFrom (n : ℕ) (test : ℕ → Bool) (at len : ℕ) : Type 0 where
  pub in_range : len ≤ n
  pub none_before : (i : ℕ) → at ≤ i → i < at + len → test i ≡ false

-- if the n lanes xs show the test from index `at` on (`TellFrom`), and `len` lanes come before the
-- first that is set, then the test is false of the first `len` indices from `at` on
before_first : {n : ℕ} {xs : List ℕ} {test : ℕ → Bool} {at : ℕ} (len : ℕ) → TellFrom n xs test at
    → len ≡ prefix_len (λ x. not (top 7 x)) xs → FailsFrom n test at len
before_first {n} {xs} {test} {at} len h is =
    let size = (h.each 0 h.some).size in
    let few : len ≤ n = omega (arith, prefix_len-le-length (λ x. not (top 7 x)) xs) in
    record {
      in_range = few;
      none_before = λ i from to.
          let k = i - at in
          let told = h.each k (omega arith) in
          let passes = prefix_len_passes (λ x. not (top 7 x)) xs k 0 (omega arith) in
          ap test {x = i} {y = at + k} (omega arith) ∙ sym (top_lane (test (at + k)))
          ∙ ap (top 7) (sym told.is) ∙ not-true (top 7 (get_or xs k 0)) passes;
    }

-- if the n lanes xs show the test from index `at` on (`TellFrom`), the number of lanes before the
-- first that is set is the index of the lowest bit set in their mask, or n if none is set
first_set : {n : ℕ} {xs : List ℕ} {test : ℕ → Bool} {at : ℕ} → TellFrom n xs test at
    → cond (eqb (mask_of xs) 0) n (count_trailing_zeros 64 (mask_of xs))
    ≡ prefix_len (λ x. not (top 7 x)) xs
first_set {n} {xs} h =
    let size = (h.each 0 h.some).size in
    let few : length (map (top 7) xs) ≤ 64 = omega (arith, length-map xs (top 7), size, h.few) in
    ap (λ k. cond (eqb k 0) n (count_trailing_zeros 64 k)) (mask_l-mod (map (top 7) xs) 64 few)
    ∙ first_set_mask_l (top 7) xs n size h.few

-- if the n lanes xs show the test from index `at` on (`TellFrom`), and no bit of their mask is set,
-- the test is false of all n indices from `at` on
pub none_set : {n : ℕ} {xs : List ℕ} {test : ℕ → Bool} {at : ℕ} → TellFrom n xs test at
    → mask_of xs ≡ 0 → FailsFrom n test at n
none_set {n} {xs} h none =
    before_first n h
    (sym (ap (λ c. cond c n (count_trailing_zeros 64 (mask_of xs))) (eq-eqb (mask_of xs) 0 none))
    ∙ first_set h)

-- if the n lanes xs show the test from index `at` on (`TellFrom`), and a bit of their mask is set,
-- the index of the lowest bit set is the number of lanes before the first that is set
lowest : {n : ℕ} {xs : List ℕ} {test : ℕ → Bool} {at : ℕ} → TellFrom n xs test at
    → (mask_of xs ≡ 0 → ⊥)
    → count_trailing_zeros 64 (mask_of xs) ≡ prefix_len (λ x. not (top 7 x)) xs
lowest {n} {xs} h some = grind (arith, first_set h)

-- if the n lanes xs show the test from index `at` on (`TellFrom`), and a bit of their mask is set,
-- the test is false from `at` up to `at` plus the index of the lowest bit set, exclusive
pub some_set : {n : ℕ} {xs : List ℕ} {test : ℕ → Bool} {at : ℕ} → TellFrom n xs test at
    → (mask_of xs ≡ 0 → ⊥) → FailsFrom n test at (count_trailing_zeros 64 (mask_of xs))
some_set {n} {xs} h some = before_first (count_trailing_zeros 64 (mask_of xs)) h (lowest h some)

-- if no element of xs passes the test p, the mask of the elements that pass has no bit set
no_bit : (p : ℕ → Bool) (xs : List ℕ) → prefix_len (λ x. not (p x)) xs ≡ length xs
    → mask_l (map p xs) ≡ 0
no_bit p [] e = refl
no_bit p (x ∷ xs) e = grind (arith, no_bit p xs)

-- if the n lanes xs show the test from index `at` on (`TellFrom`), and a bit of their mask is set,
-- the lowest bit set has an index less than n, and the test is true of `at` plus this index
pub found_set : {n : ℕ} {xs : List ℕ} {test : ℕ → Bool} {at : ℕ} → TellFrom n xs test at
    → (mask_of xs ≡ 0 → ⊥) → (count_trailing_zeros 64 (mask_of xs) < n)
    × (test (at + count_trailing_zeros 64 (mask_of xs)) ≡ true)
found_set {n} {xs} {test} {at} h some =
    let k = count_trailing_zeros 64 (mask_of xs) in
    let p = λ (x : ℕ). not (top 7 x) in
    let size = (h.each 0 h.some).size in
    let is : k ≡ prefix_len p xs = lowest h some in
    grind (arith, prefix_len_stops, no_bit, prefix_len-le-length)
