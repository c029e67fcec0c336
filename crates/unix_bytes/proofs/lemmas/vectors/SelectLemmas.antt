-- Vectors of bytes, lane by lane: selection by a comparison.
use Rattle.std.proofs.Common.{◌≡◌, ℕ, zero, suc, List, ◌∷◌, length, Bool, cond, map, nat_le}
use Rattle.std.proofs.Common.{eqb, refl, sym, ap, ◌∙◌, arith, w8}
use Rattle.std.specs.Prelude.{replicate}
use Rattle.std.specs.Simd.Lanes.{zip2, sel_l, top}
use Rattle.std.proofs.lemmas.List.{map-id}
use Rattle.std.proofs.lemmas.Simd.{tops_compared, zip2_splat, zip2_splat_left, zip2_of_maps}

-- selecting from y and `os`, by the test p of each of the n bytes xs, yields y where the byte of xs
-- passes p, and elsewhere the byte of `os`
sel_l-map : (p : ℕ → Bool) (y n : ℕ) (xs os : List ℕ) → length xs ≡ n
    → sel_l (map p xs) (replicate n y) os ≡ zip2 (λ b o. cond (p b) y o) xs os
sel_l-map p y zero (x ∷ xs) os e = absurd (omega arith)
sel_l-map p y (suc n) (x ∷ xs) (o ∷ os) e = grind (arith, sel_l-map p y n xs os (omega arith))
sel_l-map p y n xs os e = refl

-- selecting from 255 and `os`, by whether each of the n bytes xs is at least k, yields 255 where it
-- is, and elsewhere the byte of `os`
pub sel_l-lanes_ge : (k n : ℕ) (xs os : List ℕ) → length xs ≡ n
    → sel_l (map (top 7) (zip2 (λ a b. cond (nat_le a b) 255 0) (replicate n k) xs))
    (replicate n 255) os
    ≡ zip2 (λ b o. cond (nat_le k b) 255 o) xs os
sel_l-lanes_ge k n xs os e =
    ap (λ ms. sel_l ms (replicate n 255) os)
    (tops_compared w8 nat_le (replicate n k) xs ∙ zip2_splat_left nat_le k n xs e)
    ∙ sel_l-map (nat_le k) 255 n xs os e

-- selecting from `own` and `os`, by whether each of the n bytes xs equals k, yields `own` where it
-- does, and elsewhere the byte of `os`
pub sel_l-equal : (k own n : ℕ) (xs os : List ℕ) → length xs ≡ n
    → sel_l (map (top 7) (zip2 (λ a b. cond (eqb a b) 255 0) xs (replicate n k)))
    (replicate n own) os
    ≡ zip2 (λ b o. cond (eqb b k) own o) xs os
sel_l-equal k own n xs os e =
    grind (arith, tops_compared w8 eqb xs (replicate n k), zip2_splat eqb xs n k e, sel_l-map)

-- selecting by g, starting from z everywhere, and then by f, both by the same n bytes xs, maps each
-- byte b of xs to `f b (g b z)`
pub zip2-zip2 : (f g : ℕ → ℕ → ℕ) (z n : ℕ) (xs : List ℕ) → length xs ≡ n
    → zip2 f xs (zip2 g xs (replicate n z)) ≡ map (λ b. f b (g b z)) xs
zip2-zip2 f g z n xs e =
    zip2_of_maps f (λ b. b) (λ b. g b z) xs (sym (map-id xs)) (zip2_splat g xs n z e)
