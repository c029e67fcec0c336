-- Keys that start with the key of a base.
use Rattle.std.proofs.Common.{◌≡◌, ◌∙◌, ℕ, true, List, [], ◌∷◌}
use Rattle.std.proofs.Common.{Some, None, Ordering, Less, IfSome, false}
use Rattle.std.proofs.Common.{ap, append-nil, not, refl, sym, subst, is_gt, is_le, arith}
use Rattle.std.specs.Ordering.{ordering_reverse}
use Rattle.unix_path.specs.Prefixes.{IsPrefixOf}
use Rattle.path_keys.specs.Ranges.{bytes_cmp, end_of}
use Rattle.path_keys.proofs.lemmas.values.CodeLemmas.{values-coded}
use Rattle.path_keys.proofs.lemmas.values.OrderLemmas.{key_of-begins}
use Rattle.path_keys.proofs.lemmas.values.RangeLemmas.{begins-lies_under, end_of-some}
use Rattle.path_keys.specs.KeyValues.{is_own, key_values}
use Rattle.path_keys.proofs.lemmas.reading.KeyValueLemmas.{own-is, own-values}

-- k and l are keys of paths
module _ (k l : List ℕ) (own : is_own k ≡ true) (other : is_own l ≡ true) where
  -- if k is a prefix of l, the components of k are a prefix of those of l
  pub values_begin : IsPrefixOf k l → IsPrefixOf (key_values k) (key_values l)
  values_begin begins = grind (arith, own-is, own-values, key_of-begins, values-coded)

-- if p is `Less`, and o is p reversed, the test `is_le` is false of o
pub less_not_le : (o : Ordering) (p : Ordering) → o ≡ ordering_reverse p
    → p ≡ Less → not (is_le o) ≡ true
less_not_le o p is less = ap (λ o. not (is_le o)) (is ∙ ap ordering_reverse less)

-- if the test `is_le` is false of p reversed, p is `Less`
pub less_from_not_le : (p : Ordering) → not (is_le (ordering_reverse p)) ≡ true → p ≡ Less
less_from_not_le Less h = refl
less_from_not_le p h = absurd (cc)

-- if the range of `key` has no end, `key` is empty
pub endless : (key : List ℕ) → end_of key ≡ None → key ≡ []
endless [] is = refl
endless (b ∷ bs) is = absurd (let e = sym is ∙ end_of-some (b ∷ bs) (omega arith) in cc)

-- if `end` is the end of the range of `base`, `base` is not greater than `end`
pub forward : (base end : List ℕ) → end_of base ≡ Some end → is_gt (bytes_cmp base end) ≡ false
forward base end ends =
    let lies = (begins-lies_under base base).0 ([], append-nil base) in
    ap is_gt (subst (λ o. IfSome o (λ end. bytes_cmp base end ≡ Less)) ends lies.1)
