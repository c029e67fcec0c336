-- Tests for ASCII, 64, 16 or 8 bytes at a time.
use Rattle.std.proofs.Common.{◌≡◌, ℕ, zero, suc, ◌+◌, ◌-◌, ◌<◌, ◌≤◌, List, length, take}
use Rattle.std.proofs.Common.{drop, Bool, false, not, slice_index, get_or, sym}
use Rattle.std.proofs.Common.{subst, arith, length-take-le}
use Rattle.std.specs.List.{prefix_len}
use Rattle.std.specs.Str.{IsAscii}
use Rattle.std.specs.Int.Count.{count_trailing_zeros}
use Rattle.std.proofs.lemmas.Bool.Decides.{nat_tests}
use Rattle.std.proofs.lemmas.List.{take-take, take_all, get_or-take}
use Rattle.std.proofs.lemmas.List.Sums.{prefix_len-le-length, prefix_len_passes, prefix_len_stops}
use Rattle.std.proofs.lemmas.Str.{IsAscii-append, IsAscii-take}
use Rattle.std.proofs.lemmas.Str.Ascii.{IsAscii-from_all, IsAscii-more}
use Rattle.std.proofs.lemmas.Simd.{leading_from_mask_l, trailing_mask_l, length-chunk}
use Rattle.std.proofs.Math.Seq.{take-add}
use Rattle.std.proofs.lemmas.Grind.{common_steps}
use Rattle.unix_bytes.specs.Lanes.{is_non_ascii, non_ascii_mask}
use Rattle.unix_bytes.proofs.lemmas.vectors.MaskLemmas.{min_bits, min_mask}

-- the byte b is ASCII
abbrev is_narrow : ℕ → Bool
is_narrow b = not (is_non_ascii b)

-- a byte that fails `is_narrow` is at least 128
non_ascii_bound : (b : ℕ) → is_narrow b ≡ false → 0x80 ≤ b
non_ascii_bound b h = grind (arith, nat_tests)

-- the bytes of xs before the first byte that is not ASCII are ASCII
narrow_prefix : (xs : List ℕ) → IsAscii (take (prefix_len is_narrow xs) xs)
narrow_prefix xs = grind (arith, common_steps, prefix_len_passes)

-- if no bit of the mask of xs is set, all bytes of xs are ASCII
ascii_from_mask : (xs : List ℕ) → non_ascii_mask xs ≡ 0 → IsAscii xs
ascii_from_mask xs none =
    let e = leading_from_mask_l is_non_ascii xs none in
    subst IsAscii (take_all (prefix_len is_narrow xs) xs (omega arith)) (narrow_prefix xs)

-- if the mask that the code computes for the n bytes of s from index i on, at most 64, has no bit
-- set, these bytes are ASCII
pub ascii_block : (s : List ℕ) (i n : ℕ) → n ≤ 64 → i + n ≤ length s
    → min_bits 0x80 n (take n (drop i s)) ≡ 0 → IsAscii (take n (drop i s))
ascii_block s i n few l none = grind (arith, ascii_from_mask, min_mask, length-chunk)

-- if i is at most j, and the first j bytes of s are ASCII, so are the first i
pub fewer_ascii : (s : List ℕ) (i j : ℕ) → i ≤ j → IsAscii (take j s) → IsAscii (take i s)
fewer_ascii s i j le h = subst IsAscii (take-take i j s le) (IsAscii-take (take j s) i h)

-- if the first i bytes of s and the next n bytes are ASCII, so are the first i + n bytes of s
pub more_ascii : (s : List ℕ) (i n : ℕ) → IsAscii (take i s) → IsAscii (take n (drop i s))
    → IsAscii (take (i + n) s)
more_ascii s i n before here = grind (arith, take-add, IsAscii-append)

-- if s has 8 to 16 bytes, and its first 8 and its last 8 bytes are ASCII, s is ASCII
pub eight_and_eight : (s : List ℕ) (i : ℕ) → i ≡ length s - 8 → 8 ≤ length s → length s ≤ 16
    → IsAscii (take 8 (drop 0 s)) → IsAscii (take 8 (drop i s)) → IsAscii s
eight_and_eight s i e long short first last =
    let all : i + 8 ≡ length s = omega arith in
    subst IsAscii (take_all (i + 8) s (omega arith))
    (more_ascii s i 8 (fewer_ascii s i 8 (omega arith) first) last)

-- if the first i bytes of s are ASCII, and the mask m of the next 16 bytes has no bit set, the
-- first i + 16 bytes of s are ASCII
pub ascii_window : (s : List ℕ) (i m : ℕ) → i + 16 ≤ length s → IsAscii (take i s)
    → m ≡ non_ascii_mask (take 16 (drop i s)) → m ≡ 0 → IsAscii (take (i + 16) s)
ascii_window s i m l before mask none = grind (arith, more_ascii, ascii_from_mask)

-- if the mask m of the 16 bytes of s from index i on has a bit set, the index of the lowest bit set
-- is the number of these bytes before the first that is not ASCII
count_trailing_zeros-non_ascii_mask : (s : List ℕ) (i m : ℕ) → i + 16 ≤ length s
    → m ≡ non_ascii_mask (take 16 (drop i s)) → (m ≡ 0 → ⊥)
    → count_trailing_zeros 64 m ≡ prefix_len is_narrow (take 16 (drop i s))
count_trailing_zeros-non_ascii_mask s i m l mask some = grind (arith, trailing_mask_l)

-- if the first byte of s is ASCII, and the mask m of the 16 bytes of s from index i on has a bit
-- set, the byte of the lowest bit set is not the first byte of s
some_ascii : (s : List ℕ) (i m : ℕ) → i + 16 ≤ length s
    → m ≡ non_ascii_mask (take 16 (drop i s)) → (m ≡ 0 → ⊥) → slice_index s 0 < 128
    → 0 < i + count_trailing_zeros 64 m
some_ascii s zero m l mask some h =
    grind (arith, count_trailing_zeros-non_ascii_mask s 0 m l mask some)
some_ascii s (suc i) m l mask some h = omega arith

-- if the first i bytes of s are ASCII, and the mask m of the next 16 bytes has a bit set, all bytes
-- of s before the byte of the lowest bit set are ASCII; if the first byte of s is ASCII, there is
-- at least one such byte
pub ascii_prefix : (s : List ℕ) (i m : ℕ) → i + 16 ≤ length s → IsAscii (take i s)
    → m ≡ non_ascii_mask (take 16 (drop i s)) → (m ≡ 0 → ⊥)
    → let n = i + count_trailing_zeros 64 m in
    (n ≤ length s) × IsAscii (take n s) × (slice_index s 0 < 128 → 0 < n)
ascii_prefix s i m l before mask some =
    let xs = take 16 (drop i s) in
    let n = count_trailing_zeros 64 m in
    let e = count_trailing_zeros-non_ascii_mask s i m l mask some in
    let few : n ≤ 16 =
    omega (arith, e, prefix_len-le-length is_narrow xs, length-chunk i 16 s l) in
    let here : IsAscii (take n xs) =
    subst (λ k. IsAscii (take k xs)) (sym e) (narrow_prefix xs) in (
      omega arith,
      more_ascii s i n before (subst IsAscii (take-take n 16 (drop i s) few) here),
      some_ascii s i m l mask some,
    )

-- if the mask m of the first 16 bytes of s has a bit set, the index of the lowest bit set is at
-- most 16, and if it is less than 16, the byte of s at this index is not ASCII
pub first_non_ascii : (s : List ℕ) (m : ℕ) → 16 ≤ length s → m ≡ non_ascii_mask (take 16 (drop 0 s))
    → (m ≡ 0 → ⊥) → (count_trailing_zeros 64 m ≤ 16)
    × (count_trailing_zeros 64 m < 16 → 0x80 ≤ slice_index s (count_trailing_zeros 64 m))
first_non_ascii s m l mask some =
    let xs = take 16 s in
    let long : length xs ≡ 16 = length-take-le 16 s l in
    let n = prefix_len is_narrow xs in
    let e : count_trailing_zeros 64 m ≡ n =
    count_trailing_zeros-non_ascii_mask s 0 m (omega arith) mask some in (
      omega (arith, prefix_len-le-length is_narrow xs),
      λ few.
          let within : n < 16 = omega arith in
          let stop = prefix_len_stops is_narrow xs 0 (omega arith) in
          let non_ascii : 0x80 ≤ get_or xs n 0 = non_ascii_bound (get_or xs n 0) stop in
          subst (λ k. 0x80 ≤ get_or s k 0) (sym e)
          (subst (λ b. 0x80 ≤ b) (get_or-take 16 s n 0 within) non_ascii),
    )

-- ASCII with one more byte of ASCII appended is ASCII
pub ruleset one_more_ascii = IsAscii-more
