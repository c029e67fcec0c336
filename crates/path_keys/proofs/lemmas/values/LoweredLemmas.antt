-- The bytes of names, changed to those in a key, and back.
use Rattle.std.proofs.Common.{◌≡◌, ◌<◌, ℕ, Bool, false, eqb, List, [], ◌∷◌, ◌++◌}
use Rattle.std.proofs.Common.{length, map, take, refl, ap₂, arith}
use Rattle.std.proofs.lemmas.Bool.Decides.{nat_tests}
use Rattle.std.proofs.lemmas.List.{get_or-take, length-take-le}
use Rattle.std.proofs.lemmas.List.Elements.{All-from_get_or, recursion_from_All}
use Rattle.std.proofs.lemmas.List.Sums.{fails_before_first}
use Rattle.std.specs.List.{AllByRecursion, position_or_len}
use Rattle.unix_path.specs.Parts.{is_slash}
use Rattle.path_runs.proofs.lemmas.spelling.PieceValueLemmas.{NoSlash}
use Rattle.path_keys.specs.Keys.{raised}
use Rattle.path_keys.specs.Codes.{lowered}

-- no byte of p is 0
abbrev pub NoZero : List ℕ → Type 0
NoZero p = AllByRecursion (λ b. eqb b 0 ≡ false) p

-- if f leads back from the result of g for each byte of which P holds, it leads back for all bytes
-- of p if P holds of them
pub map-back : (f g : ℕ → ℕ) (P : ℕ → Type 0) → ((b : ℕ) → P b → f (g b) ≡ b) → (p : List ℕ)
    → AllByRecursion P p → map f (map g p) ≡ p
map-back f g P back [] h = refl
map-back f g P back (b ∷ p) h = ap₂ (λ c q. c ∷ q) (back b h.0) (map-back f g P back p h.1)

-- if b is no slash, raising b and lowering the result leads back to b
pub lowered-raised : (b : ℕ) → is_slash b ≡ false → lowered (raised b) ≡ b
lowered-raised b h = grind (arith, nat_tests)

-- if b is no slash, the byte in a key for b isn't 0
pub raised-no_zero : (b : ℕ) → is_slash b ≡ false → eqb (raised b) 0 ≡ false
raised-no_zero b h = grind (arith, nat_tests)

-- if no byte of p is 0, lowering all bytes of p and raising the results leads back to p
pub map-raised-lowered : (p : List ℕ) → NoZero p → map raised (map lowered p) ≡ p
map-raised-lowered =
    map-back raised lowered (λ b. eqb b 0 ≡ false) (λ b h. grind (arith, nat_tests))

-- if p has no slash, raising all bytes of p and lowering the results leads back to p
pub map-lowered-raised : (p : List ℕ) → NoSlash p → map lowered (map raised p) ≡ p
map-lowered-raised = map-back lowered raised (λ b. is_slash b ≡ false) lowered-raised

-- if no byte of p is 0, the bytes that p represents in a key have no slash
pub lowered-NoSlash : (p : List ℕ) → NoZero p → NoSlash (map lowered p)
lowered-NoSlash [] h = tt
lowered-NoSlash (b ∷ p) h =
    let s = h.0 in
    let low : is_slash (lowered b) ≡ false =
    grind (arith, nat_tests) in (low, lowered-NoSlash p h.1)

-- if p has no slash, none of its bytes is 0 in a key
pub raised-NoZero : (p : List ℕ) → NoSlash p → NoZero (map raised p)
raised-NoZero [] h = tt
raised-NoZero (b ∷ p) h = (raised-no_zero b h.0, raised-NoZero p h.1)

-- b is 0
abbrev pub is_zero : ℕ → Bool
is_zero b = eqb b 0

-- if n is the index of the first 0 of s, no byte of s before index n is 0
pub NoZero-before : (s : List ℕ) (n : ℕ) → n ≡ position_or_len is_zero s → n < length s
    → NoZero (take n s)
NoZero-before s n e l = recursion_from_All (λ b. eqb b 0 ≡ false) (take n s)
    (All-from_get_or (λ b. eqb b 0 ≡ false) (take n s) 1
    (λ k few. grind (arith, length-take-le, get_or-take, fails_before_first)))

-- if no byte of p is 0, the first 0 of p, 0 and y together is at index `length p`
pub first_zero : (p y : List ℕ) → NoZero p → position_or_len is_zero (p ++ 0 ∷ y) ≡ length p
first_zero [] y h = refl
first_zero (b ∷ p) y h = rw h.0 (omega (arith, first_zero p y h.1))
