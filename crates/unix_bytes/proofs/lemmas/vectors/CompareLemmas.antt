-- Byte strings compared at their first difference.
use Rattle.std.proofs.Common.{◌≡◌, ℕ, zero, suc, ◌+◌, ◌<◌, true, false, eqb, List, []}
use Rattle.std.proofs.Common.{◌∷◌, length, get_or, ⊎_elim, refl, sym, ap, ◌∙◌, arith, eqb-true}
use Rattle.std.proofs.Common.{nat_cmp, Less, Equal, Greater}
use Rattle.std.specs.Cmp.{nat_cmp_is}
use Rattle.std.specs.Cmp.Lexicographic.{slice_cmp}
use Rattle.std.specs.List.{common_prefix_len}
use Rattle.std.specs.Ordering.{ordering_then}
use Rattle.std.proofs.lemmas.Bool.{cases_Bool}

-- if x and y are equal, their order is `Equal`
same_number : (x y : ℕ) → eqb x y ≡ true → nat_cmp x y ≡ Equal
same_number x y same = sym (nat_cmp_is x y Equal (eqb-true x y same))

-- if a and b both continue after their common prefix of n bytes, their bytes at index n decide
-- their order
pub differing_bytes : (a b : List ℕ) (n : ℕ) → n ≡ common_prefix_len eqb a b → n < length a
    → n < length b → slice_cmp nat_cmp a b ≡ nat_cmp (get_or a n 0) (get_or b n 0)
differing_bytes (x ∷ a) (y ∷ b) zero e l m = grind arith
differing_bytes (x ∷ a) (y ∷ b) (suc n) e l m =
    ⊎_elim
    (λ (same : eqb x y ≡ true).
    let f : suc n ≡ 1 + common_prefix_len eqb a b = rw same at e in
    ap (λ r. ordering_then r (slice_cmp nat_cmp a b)) (same_number x y same)
    ∙ differing_bytes a b n (omega arith) (omega arith) (omega arith))
    (λ (other : eqb x y ≡ false). let f : suc n ≡ 0 = rw other at e in absurd (omega arith))
    (cases_Bool (eqb x y))
differing_bytes a b n e l m = absurd (omega arith)

-- if the common prefix of a and b is all of a or all of b, the lengths of a and b decide their
-- order
pub beginning_is_less : (a b : List ℕ) (n : ℕ) → n ≡ common_prefix_len eqb a b
    → (n < length a → n < length b → ⊥) → slice_cmp nat_cmp a b ≡ nat_cmp (length a) (length b)
beginning_is_less [] [] n e ends = refl
beginning_is_less [] (y ∷ b) n e ends = nat_cmp_is 0 (suc (length b)) Less (omega arith)
beginning_is_less (x ∷ a) [] n e ends = nat_cmp_is (suc (length a)) 0 Greater (omega arith)
beginning_is_less (x ∷ a) (y ∷ b) n e ends =
    grind (arith, same_number, beginning_is_less a b (common_prefix_len eqb a b) refl)

-- the first difference of two byte strings decides their order, and otherwise their lengths
pub ruleset first_differences = (differing_bytes, beginning_is_less)
