-- Bytes that are between a base and bytes that start with the base also start with the base.
use Rattle.std.proofs.Common.{◌≡◌, ℕ, true, eqb, List, Less}
use Rattle.std.proofs.Common.{is_le, refl}
use Rattle.std.proofs.lemmas.Option.{IfSome_then}
use Rattle.std.specs.BTreeMap.Comparable.{le_lt_trans}
use Rattle.std.specs.Cmp.Lexicographic.{nat_list_cmp_total}
use Rattle.std.specs.List.{starts_with}
use Rattle.path_keys.specs.Ranges.{bytes_cmp, end_of}
use Rattle.path_keys.proofs.lemmas.values.BeginLemmas.{begins_told}
use Rattle.path_keys.proofs.lemmas.values.RangeLemmas.{begins-lies_under}

-- if x is not greater than y, and y is less than z, then x is less than z
pub le_less : (x y z : List ℕ) → is_le (bytes_cmp x y) ≡ true → bytes_cmp y z ≡ Less
    → bytes_cmp x z ≡ Less
le_less = le_lt_trans nat_list_cmp_total

-- if x is not less than `base`, and is less than y, which starts with `base`, then x starts with
-- `base`
pub interval : (base x y : List ℕ) → is_le (bytes_cmp base x) ≡ true → bytes_cmp x y ≡ Less
    → starts_with eqb y base ≡ true → starts_with eqb x base ≡ true
interval base x y le less starts =
    let lies = (begins-lies_under base y).0 ((begins_told y base _ refl).0 starts) in
    (begins_told x base _ refl).1
    ((begins-lies_under base x).1 (
      le,
      IfSome_then (end_of base) lies.1 (λ end. nat_list_cmp_total.trans x y end less),
    ))
