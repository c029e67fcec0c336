-- The components that bytes add after a string that ends in a slash, and the components of a join
-- whose first path isn't empty. `inner_values b` are the components of b without a leading root or
-- `.`.
use Rattle.std.proofs.Common.{◌≡◌, ℕ, ◌<◌, true, false, List, [], ◌∷◌, ◌++◌, length, sym, ap}
use Rattle.std.proofs.Common.{arith, append_assoc, eqb-true}
use Rattle.unix_path.specs.Parts.{slash, is_rooted, values}
use Rattle.unix_path.specs.Joins.{needs_no_separator, join_of}
use Rattle.unix_path.proofs.lemmas.order.CommonPrefixLemmas.{values-past_slash, values-slash}
use Rattle.unix_path.specs.CommonDir.{inner_values}
use Rattle.unix_path.proofs.lemmas.edits.JoinLemmas.{join_of_no_separator, join_of_separator}

-- if u needs no separator in a join, and isn't empty, u ends in a slash
pub ends_open : (u : List ℕ) → needs_no_separator u ≡ true → 0 < length u
    → (f : List ℕ) × (f ++ slash ∷ [] ≡ u)
ends_open [] o l = absurd (omega arith)
ends_open (x ∷ []) o l = ([], sym (ap (λ z. z ∷ []) (eqb-true x 47 o)))
ends_open (x ∷ y ∷ u) o l =
    let more = ends_open (y ∷ u) o (omega arith) in
    (x ∷ more.0, ap (λ z. x ∷ z) more.1)

-- if u ends in a slash, u followed by b has the components of u and then those of b without a
-- leading root or `.`
pub values-open : (u b : List ℕ) → needs_no_separator u ≡ true → 0 < length u
    → values (u ++ b) ≡ values u ++ inner_values b
values-open u b o l = grind (arith, ends_open, values-past_slash)

-- if a needs a separator in a join, a isn't empty
pub not_open : (a : List ℕ) → needs_no_separator a ≡ false → 0 < length a
not_open [] o = absurd (let d : true ≡ false = o in cc)
not_open (x ∷ a) o = omega arith

-- if a isn't empty and b has no root, the join of a and b has the components of a and then those of
-- b without a leading `.`
pub values-join_of : (a b : List ℕ) → 0 < length a → is_rooted b ≡ false
    → values (join_of a b) ≡ values a ++ inner_values b
values-join_of a b l r =
    grind (arith, join_of_no_separator, values-open, join_of_separator, append_assoc, values-slash)
