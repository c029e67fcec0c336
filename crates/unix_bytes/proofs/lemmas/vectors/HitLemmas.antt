-- The search for a byte, 16 bytes at a time.
use Rattle.std.proofs.Common.{◌≡◌, ℕ, suc, ◌+◌, ◌-◌, ◌*◌, ◌/◌, ◌%◌, ◌^◌, ◌<◌, ◌≤◌, ◌==◌, Bool}
use Rattle.std.proofs.Common.{true, false, List, length, take, drop, map, get_or, ⊎_elim, refl}
use Rattle.std.proofs.Common.{sym, ap, subst, ◌∙◌, arith, length-drop, get_or-drop}
use Rattle.std.specs.Int.Count.{count_leading_zeros}
use Rattle.std.specs.List.{position_or_len}
use Rattle.std.proofs.Math.Nat.{div-eq_of_lt, pow-succ'}
use Rattle.std.proofs.Math.Pow.{pow_mono}
use Rattle.std.proofs.lemmas.Bool.{cases_lt}
use Rattle.std.proofs.lemmas.List.{get_or-map, length-map}
use Rattle.std.proofs.lemmas.List.Sums.{position_or_len_is}
use Rattle.std.proofs.lemmas.Nat.{leading_length}
use Rattle.std.proofs.lemmas.Simd.{bit_mask_l, mask_l-lt, run_in_chunk_fails, run_in_chunk_stops}
use Rattle.std.proofs.lemmas.Grind.{common_steps}
use Rattle.unix_bytes.specs.Lanes.{hit_mask}
use Rattle.unix_bytes.proofs.lemmas.vectors.MaskLemmas.{bit, is_clear}

-- if `byte` does not occur in s before index `at`, `from` is at most `at`, and n is the index of
-- the first `byte` among the 16 bytes of s from `from` on, or 16 if none is there, then `byte` does
-- not occur in s before index `from` + n
pub none_before : (byte : ℕ) (s : List ℕ) (at from n : ℕ) → from ≤ at → from + 16 ≤ length s
    → n ≡ position_or_len (λ b. b == byte) (take 16 (drop from s))
    → ((k : ℕ) → k < at → (get_or s k 0 == byte) ≡ false)
    → (k : ℕ) → k < from + n → (get_or s k 0 == byte) ≡ false
none_before byte s at from n order fits is none k l =
    ⊎_elim (λ (less : k < at). none k less)
    (λ (more : at ≤ k).
    run_in_chunk_fails (λ b. b == byte) s from 16 n 0 fits is k (omega arith) l) (cases_lt k at)

-- if `byte` does not occur in s before index `at`, `from` is at most `at`, and n is the index of
-- the first `byte` among the 16 bytes of s from `from` on, or 16 if none is there and s ends after
-- them, then `from` + n is the index of the first `byte` in s, or the length of s
pub first_after : (byte : ℕ) (s : List ℕ) (at from n : ℕ) → from ≤ at → from + 16 ≤ length s
    → n ≡ position_or_len (λ b. b == byte) (take 16 (drop from s)) → n ≤ 16
    → ((k : ℕ) → k < at → (get_or s k 0 == byte) ≡ false) → (from + n < length s → n < 16)
    → from + n ≡ position_or_len (λ b. b == byte) s
first_after byte s at from n order fits is few none stops =
    let p = λ (b : ℕ). b == byte in
    sym (position_or_len_is p s (from + n) 0 (omega arith)
    (none_before byte s at from n order fits is none)
    (λ l. run_in_chunk_stops p s from 16 n 0 fits is (stops l)))

-- if a is less than 2^m, a has no bit set at index m or above
no_bit : (a k m : ℕ) → a < 2 ^ m → m ≤ k → a / 2 ^ k ≡ 0
no_bit a k m l h = div-eq_of_lt (omega (arith, pow_mono h))

-- if a is at least 2^k and less than 2^(k+1), the highest bit set in a has index k
top_bit : (a k : ℕ) → 2 ^ k ≤ a → a < 2 * 2 ^ k → a / 2 ^ k ≡ 1
top_bit a k low high = grind arith

-- the bit of the mask at index k is set if and only if the byte of xs at index k is `byte`
bit_of : (byte : ℕ) (xs : List ℕ) (k : ℕ) → k < length xs
    → hit_mask byte xs / 2 ^ k % 2 ≡ bit (get_or xs k 0 == byte)
bit_of byte xs k l = grind (arith, bit_mask_l, get_or-map)

-- a test whose bit is 1 is true
is_set : (t : Bool) → bit t ≡ 1 → t ≡ true
is_set true e = refl
is_set false e = absurd (omega arith)

-- among the 16 bytes xs, the last `byte` is just before index `past`; if none of them is `byte`,
-- `past` is 0
pub record LastHit (byte : ℕ) (xs : List ℕ) (past : ℕ) : Type 0 where
  pub in_range : past ≤ 16
  pub after : 0 < past → (get_or xs (past - 1) 0 == byte) ≡ true
  pub none_after : (k : ℕ) → past ≤ k → k < 16 → (get_or xs k 0 == byte) ≡ false

-- if a is less than 2^16, and 2^m is at most 2a + 1, m is at most 16
at_most_16 : (a m : ℕ) → a < 2 ^ 16 → 2 ^ m ≤ 2 * a + 1 → m ≤ 16
at_most_16 a m small low =
    ⊎_elim
    (λ (more : 16 < m).
    let many : 2 ^ 17 ≤ 2 ^ m = pow_mono {i = 17} {j = m} (omega arith) in
    absurd (omega (arith, small, low, many)))
    (λ (few : m ≤ 16). few) (cases_lt 16 m)

-- a power of two is twice the power before it
halves : (m : ℕ) → 0 < m → 2 ^ m ≡ 2 * 2 ^ (m - 1)
halves m some = ap (λ k. 2 ^ k) {x = m} {y = suc (m - 1)} (omega arith) ∙ pow-succ' 2 (m - 1)

-- the index just after the last `byte` among the 16 bytes xs, or 0 if none of them is `byte`, is 64
-- less the number of leading zeros of their mask (`hit_mask`)
pub last_hit : (byte : ℕ) (xs : List ℕ) → length xs ≡ 16
    → LastHit byte xs (64 - count_leading_zeros 64 (hit_mask byte xs))
last_hit byte xs l =
    let a = hit_mask byte xs in
    let n = length-map xs (λ b. b == byte) ∙ l in
    let small : a < 2 ^ 16 = subst (λ k. a < 2 ^ k) n (mask_l-lt (map (λ b. b == byte) xs)) in
    let top = leading_length 64 a (omega (arith, small)) in
    let m = top.0 in
    let high : a < 2 ^ m = top.2 in
    let low : 2 ^ m ≤ 2 * a + 1 = top.3 in
    let few : m ≤ 16 = at_most_16 a m small low in
    let past : m ≡ 64 - count_leading_zeros 64 a = omega (arith, top.1) in
    subst (LastHit byte xs) past (record {
      in_range = few;
      after = λ some.
          let two = halves m some in
          is_set _ (sym (bit_of byte xs (m - 1) (omega arith)) ∙ ap (λ n. n % 2)
          (top_bit a (m - 1) (omega (arith, low, two)) (omega (arith, high, two))));
      none_after = λ k h n.
          is_clear _ (sym (bit_of byte xs k (omega arith)) ∙ ap (λ n. n % 2) (no_bit a k m high h));
    })

-- if `byte` does not occur in s from index `from` on, `position_or_len` of the bytes of s from
-- there on is the number of these bytes
pub none_from : (byte : ℕ) (s : List ℕ) (from : ℕ) → from ≤ length s
    → ((k : ℕ) → from ≤ k → k < length s → (get_or s k 0 == byte) ≡ false)
    → position_or_len (λ b. b == byte) (drop from s) ≡ length (drop from s)
none_from byte s from l none =
    let size = length-drop from s in
    position_or_len_is (λ b. b == byte) (drop from s) (length (drop from s)) 0 (omega arith)
    (λ k few. ap (λ b. b == byte) (get_or-drop from s k 0)
    ∙ none (from + k) (omega arith) (omega arith))
    (λ few. absurd (omega arith))

-- if k is at least `at` and less than `at` + n, the byte of s at index k is at index k - `at` of
-- the window of n bytes of s from `at` on
pub in_window : (at n : ℕ) (s : List ℕ) (k : ℕ) → at ≤ k → k < at + n
    → get_or (take n (drop at s)) (k - at) 0 ≡ get_or s k 0
in_window at n s k l h = grind (arith, common_steps)
