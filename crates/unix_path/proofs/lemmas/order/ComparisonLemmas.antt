-- The order of two strings of which at least one is empty.
use Rattle.std.proofs.Common.{◌≡◌, ℕ, ◌<◌, List, [], ◌∷◌, length, map, sym, ap, ap₂, ◌∙◌, arith}
use Rattle.std.proofs.Common.{Less}
use Rattle.std.proofs.lemmas.List.{nil_from_length}
use Rattle.std.specs.Cmp.{nat_cmp_is}
use Rattle.std.specs.Ordering.{nat_cmp}
use Rattle.unix_path.proofs.lemmas.parts.PartLemmas.{values-nil}
use Rattle.unix_path.proofs.lemmas.rests.SplitLemmas.{splits_first}
use Rattle.unix_path.specs.Order.{values_cmp}
use Rattle.unix_path.specs.Parts.{Value, values}

-- the components of s are `first` and `others`
pub record SomeValue (s : List ℕ) : Type 0 where
  pub first : Value
  pub others : List Value
  pub is : values s ≡ first ∷ others

-- if s is not empty, it has a component
pub some_value : (s : List ℕ) → 0 < length s → SomeValue s
unfolding values
some_value s l =
    let h = splits_first s l in
    record {
      first = h.first.value;
      others = _;
      is = ap (map (λ p. p.value)) h.is;
    }

-- if s or t is empty, s and t are in the order of their lengths
pub values_cmp-end : (s t : List ℕ) → (0 < length s → length t ≡ 0)
    → nat_cmp (length s) (length t) ≡ values_cmp (values s) (values t)
values_cmp-end [] [] h = sym (ap₂ values_cmp values-nil values-nil)
values_cmp-end [] (y ∷ t) h =
    let some = some_value (y ∷ t) (omega arith) in
    sym (nat_cmp_is 0 (length (y ∷ t)) Less (omega arith)) ∙ sym (ap₂ values_cmp values-nil some.is)
values_cmp-end (x ∷ s) t h =
    let some = some_value (x ∷ s) (omega arith) in
    grind (arith, values-nil, nil_from_length)
