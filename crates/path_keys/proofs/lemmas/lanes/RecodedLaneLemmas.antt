-- Bytes of names recoded many at once, and the two ways of recoding: to a key, and to a path.
use Rattle.std.proofs.Common.{arith}
use Rattle.std.proofs.Common.{◌≡◌, ℕ, ◌+◌, ◌%◌, cond, eqb, List, [], ◌∷◌}
use Rattle.std.proofs.Common.{length, map, replicate, refl, ap₂, ◌∙◌}
use Rattle.std.specs.Simd.Lanes.{zip2, sel_l, top}
use Rattle.std.proofs.lemmas.Simd.{zip2_splat, splat_is_map}
use Rattle.std.proofs.Math.Dec.{ltb}
use Rattle.unix_bytes.proofs.lemmas.vectors.TestLaneLemmas.{lane, top_lane}
use Rattle.path_keys.specs.NameBytes.{recoded}
use Rattle.path_keys.specs.declared.recode.Recoding.{Recoding}

-- in the lane of the byte x, the code computes the byte x, recoded
lane_recoded : (how : Recoding) (x : ℕ)
    → cond (top 7 (lane (eqb x how.separator))) how.new_separator
    (cond (top 7 (lane (ltb x how.below))) ((x + how.shift) % 256) x) ≡ recoded how x
lane_recoded how x = grind (arith, top_lane)

-- in the lanes of the bytes xs, the code computes the bytes xs, recoded
selected : (how : Recoding) (xs : List ℕ)
    → sel_l (map (top 7) (map (λ x. lane (eqb x how.separator)) xs)) (map
    (λ _. how.new_separator) xs)
    (sel_l (map (top 7) (map (λ x. lane (ltb x how.below)) xs))
    (map (λ x. (x + how.shift) % 256) xs) xs)
    ≡ map (recoded how) xs
selected how [] = refl
selected how (x ∷ xs) = ap₂ (λ c cs. c ∷ cs) (lane_recoded how x) (selected how xs)

-- if xs has n bytes, the n lanes that the code computes are the bytes xs, recoded
pub recoded_lanes : (how : Recoding) (n : ℕ) (xs : List ℕ) → length xs ≡ n
    → sel_l (map (top 7) (zip2 (λ a b. lane (eqb a b)) xs (replicate n how.separator)))
    (replicate n how.new_separator)
    (sel_l (map (top 7) (zip2 (λ a b. lane (ltb a b)) xs (replicate n how.below)))
    (zip2 (λ a b. (a + b) % 256) xs (replicate n how.shift)) xs)
    ≡ map (recoded how) xs
recoded_lanes how n xs l =
    ap₂ (λ es ls. sel_l (map (top 7) es) (replicate n how.new_separator)
    (sel_l (map (top 7) ls) (zip2 (λ a b. (a + b) % 256) xs (replicate n how.shift)) xs))
    (zip2_splat (λ a b. lane (eqb a b)) xs n how.separator l)
    (zip2_splat (λ a b. lane (ltb a b)) xs n how.below l)
    ∙ ap₂ (λ zs ss. sel_l (map (top 7) (map (λ x. lane (eqb x how.separator)) xs)) zs
    (sel_l (map (top 7) (map (λ x. lane (ltb x how.below)) xs)) ss xs))
    (splat_is_map xs n how.new_separator l) (zip2_splat (λ a b. (a + b) % 256) xs n how.shift l)
    ∙ selected how xs
