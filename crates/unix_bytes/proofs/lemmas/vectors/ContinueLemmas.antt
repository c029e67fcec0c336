-- Each byte continues the three bytes before it (`Continues`) if two bit masks add up to a third.
use Rattle.std.proofs.Common.{◌≡◌, ℕ, ◌+◌, ◌*◌, List, [], ◌∷◌, length, Bool}
use Rattle.std.proofs.Common.{true, false, cond, map, nat_le, refl, arith}
use Rattle.std.proofs.Common.{leb-true, le-leb}
use Rattle.std.specs.Prelude.{replicate}
use Rattle.std.specs.Simd.Lanes.{zip2, mask_l}
use Rattle.std.proofs.lemmas.Grind.{common_steps}
use Rattle.unix_bytes.specs.Windows.{AllContinue}
use Rattle.unix_bytes.proofs.lemmas.vectors.MaskLemmas.{bit}

-- 255 if a, b and c leave a sequence unfinished, and otherwise 0
abbrev unfinished_lane : ℕ → ℕ → ℕ → ℕ
unfinished_lane a b c =
    cond (nat_le 0xF0 a) 255 (cond (nat_le 0xE0 b) 255 (cond (nat_le 0xC0 c) 255 0))

-- the bits o and p add up to the bit q without a carry, and n and m add up to k
record Adds (o p q : Bool) (n m k : ℕ) : Type 0 where
  bits : bit o + bit p ≡ bit q
  rest : n + m ≡ k

-- o, p and q are the lowest bits of three numbers, and n, m and k their other bits: if the first
-- two numbers add up to the third, and q is set if p is, then `Adds` holds
adds : (o p q : Bool) (n m k : ℕ) → (p ≡ true → q ≡ true)
    → (bit o + 2 * n) + (bit p + 2 * m) ≡ bit q + 2 * k → Adds o p q n m k
adds true true false n m k h e = let z = h refl in cc
adds true false true n m k h e = record { bits = refl; rest = omega arith }
adds false true true n m k h e = record { bits = refl; rest = omega arith }
adds false false false n m k h e = record { bits = refl; rest = omega arith }
adds o p q n m k h e = absurd (omega arith)

-- if two numbers are equal, their lowest bits p and q are the same, and so are their other bits n
-- and m
same_bit : (p q : Bool) (n m : ℕ) → bit p + 2 * n ≡ bit q + 2 * m → (p ≡ q) × (n ≡ m)
same_bit true true n m e = (refl, omega arith)
same_bit false false n m e = (refl, omega arith)
same_bit p q n m e = absurd (omega arith)

-- as the code computes it: 255 at each index where the bytes of s, t and u leave a sequence
-- unfinished, and otherwise 0 (`unfinished_lane`)
abbrev pub unfinished_lanes : List ℕ → List ℕ → List ℕ → List ℕ
unfinished_lanes s t u =
    zip2 (λ b o. cond (nat_le 0xF0 b) 255 o) s
    (zip2 (λ b o. cond (nat_le 0xE0 b) 255 o) t
    (zip2 (λ b o. cond (nat_le 0xC0 b) 255 o) u (replicate (length u) 0)))

-- if d is at least C0, it is not ASCII
above_beginning : (d : ℕ) → nat_le 0xC0 d ≡ true → nat_le 0x80 d ≡ true
above_beginning d h = let k = leb-true 0xC0 d h in le-leb 0x80 d (omega arith)

-- if s, t and u are as long as v, the mask of where the bytes of s, t and u leave a sequence
-- unfinished and the mask of bytes of v of at least C0 add up to the mask of bytes of v of at least
-- 80, and no byte of v is C0 or C1, then `AllContinue s t u v` holds
pub all_continue : (s t u v : List ℕ)
    → mask_l (map (nat_le 0x80) (unfinished_lanes s t u)) + mask_l (map (nat_le 0xC0) v)
    ≡ mask_l (map (nat_le 0x80) v)
    → mask_l (map (nat_le 0xC0) v) ≡ mask_l (map (nat_le 0xC2) v)
    → length s ≡ length v → length t ≡ length v → length u ≡ length v → AllContinue s t u v
all_continue s t u [] e f p q r = grind (arith, common_steps)
all_continue (a ∷ s) (b ∷ t) (c ∷ u) (d ∷ v) e f p q r =
    let sum = adds (nat_le 0x80 (unfinished_lane a b c)) (nat_le 0xC0 d) (nat_le 0x80 d) _ _ _
    (above_beginning d) e in
    let bit = same_bit (nat_le 0xC0 d) (nat_le 0xC2 d) _ _ f in
    grind (arith, all_continue s t u v sum.rest bit.1 (omega arith) (omega arith) (omega arith))
all_continue s t u v e f p q r = tt
