-- Bit masks of vectors: a bit for each byte that passes a comparison.
use Rattle.std.proofs.Common.{◌≡◌, ℕ, ◌<◌, ◌≤◌, ◌%◌, ◌^◌, List, ◌∷◌, length, Bool}
use Rattle.std.proofs.Common.{true, false, cond, map, nat_le, ltb, refl, sym, ap, ◌∙◌}
use Rattle.std.proofs.Common.{arith, w8}
use Rattle.std.specs.Prelude.{replicate}
use Rattle.std.specs.Simd.Lanes.{zip2, mask_l, top}
use Rattle.std.proofs.lemmas.List.{length-map}
use Rattle.std.proofs.lemmas.Simd.{length-zip2, mask_l-mod, mask_l-lt, tops_compared}
use Rattle.std.proofs.lemmas.Simd.{zip2_splat_left}
use Rattle.unix_bytes.specs.Windows.{AllAtLeast}

-- the mask of the bytes of xs that are not less than k, as the code computes it for n bytes xs
abbrev pub min_bits : ℕ → ℕ → List ℕ → ℕ
min_bits k n xs =
    mask_l (map (top 7) (zip2 (λ a b. cond (nat_le a b) 255 0) (replicate n k) xs)) % 2 ^ 64

-- if xs has n bytes, and n is at most 64, the mask that the code computes has a bit set for each
-- byte of xs that is not less than k, and no other
pub min_mask : (k n : ℕ) (xs : List ℕ) → length xs ≡ n → n ≤ 64
    → min_bits k n xs ≡ mask_l (map (nat_le k) xs)
min_mask k n xs e le =
    ap (λ ms. mask_l ms % 2 ^ 64)
    (tops_compared w8 nat_le (replicate n k) xs ∙ zip2_splat_left nat_le k n xs e)
    ∙ mask_l-mod (map (nat_le k) xs) 64 (omega (arith, length-map xs (nat_le k)))

-- the mask of those of the 16 bytes xs that are not less than k is less than 2^16
pub mask_bound : (k : ℕ) (xs : List ℕ) → length xs ≡ 16 → mask_l (map (nat_le k) xs) < 0x10000
mask_bound k xs e = grind (arith, length-map, mask_l-lt)

-- the bit of the test result t: 1 if t is true, and otherwise 0
abbrev pub bit : Bool → ℕ
bit t = cond t 1 0

-- a test whose bit is 0 is false
pub is_clear : (t : Bool) → bit t ≡ 0 → t ≡ false
is_clear true e = absurd (omega arith)
is_clear false e = refl

-- if the mask of the indices at which the byte of xs is less than the byte of ys is 0, no byte of
-- xs is less than the byte of ys with the same index
none_less : (xs ys : List ℕ) → mask_l (zip2 ltb xs ys) ≡ 0 → AllAtLeast xs ys
none_less (x ∷ xs) (y ∷ ys) e = grind (arith, none_less xs ys (omega arith))
none_less xs ys e = tt

-- for 16 bytes xs and 16 bytes ys: if the mask that the code computes of the indices at which the
-- byte of xs is less than the byte of ys is 0, no byte of xs is less than the byte of ys with the
-- same index
pub none_below : (xs ys : List ℕ) → length xs ≡ 16 → length ys ≡ 16
    → mask_l (map (top 7) (zip2 (λ a b. cond (ltb a b) 255 0) xs ys)) % 2 ^ 64 ≡ 0
    → AllAtLeast xs ys
none_below xs ys p q e =
    let l : length (zip2 ltb xs ys) ≤ 64 =
    omega (arith, length-zip2 {C = Bool} ltb xs ys (p ∙ sym q)) in
    none_less xs ys
    (sym (mask_l-mod (zip2 ltb xs ys) 64 l)
    ∙ sym (ap (λ ms. mask_l ms % 2 ^ 64) (tops_compared w8 ltb xs ys)) ∙ e)
