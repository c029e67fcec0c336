-- In the order of lists of components, those that start with a base are adjacent, and the base
-- comes before them.
use Rattle.std.proofs.Common.{◌≡◌, true, true≢false, List, [], ◌∷◌, ◌++◌, refl, sym, ap, ap₂}
use Rattle.std.proofs.Common.{◌∙◌, Ordering, Less, Equal, Greater, arith}
use Rattle.std.specs.Ordering.{is_le, ordering_then, ordering_reverse}
use Rattle.std.proofs.lemmas.Cmp.{tied_itself}
use Rattle.unix_bytes.specs.IsPrefixOf.{IsPrefixOf}
use Rattle.unix_path.specs.Parts.{Value}
use Rattle.unix_path.specs.Order.{value_cmp, values_cmp}
use Rattle.unix_path.specs.OrderLaws.{value_cmp-total, value_cmp-equal}

-- if b ∷ v is between two lists that begin with a, and v starts with base whenever v is between the
-- rests of these lists after a, then b ∷ v starts with a ∷ base; o is the order of a and b, p that
-- of b and a, q that of the first rest and v, and r that of v and the second rest
begins_between-cons : (a b : Value) (base v : List Value) (o p q r : Ordering)
    → value_cmp a b ≡ o → p ≡ ordering_reverse o
    → is_le (ordering_then o q) ≡ true → is_le (ordering_then p r) ≡ true
    → (is_le q ≡ true → is_le r ≡ true → IsPrefixOf base v) → IsPrefixOf (a ∷ base) (b ∷ v)
begins_between-cons a b base v Less p q r is back after before behind = cc
begins_between-cons a b base v Equal p q r is back after before behind =
    let tail = behind after (sym (ap (λ o. is_le (ordering_then o r)) back) ∙ before) in
    (tail.0, ap₂ (λ c t. c ∷ t) (value_cmp-equal a b is) tail.1)
begins_between-cons a b base v Greater p q r is back after before behind = cc

-- if v is between base followed by x and base followed by y, or is one of them, v starts with base
begins_between-append : (base v x y : List Value)
    → is_le (values_cmp (base ++ x) v) ≡ true → is_le (values_cmp v (base ++ y)) ≡ true
    → IsPrefixOf base v
begins_between-append [] v x y after before = (v, refl)
begins_between-append (a ∷ base) [] x y after before = absurd (true≢false (sym after))
begins_between-append (a ∷ base) (b ∷ v) x y after before =
    begins_between-cons a b base v (value_cmp a b) (value_cmp b a)
    (values_cmp (base ++ x) v) (values_cmp v (base ++ y))
    refl (value_cmp-total.antisymm b a) after before (begins_between-append base v x y)

-- if u and w start with base, and u ≤ v ≤ w in the order, v starts with base too
pub begins_between : (base u v w : List Value) → IsPrefixOf base u → IsPrefixOf base w
    → is_le (values_cmp u v) ≡ true → is_le (values_cmp v w) ≡ true → IsPrefixOf base v
begins_between base u v w first last after before = grind (arith, begins_between-append)

-- the list base is less than or equal to base followed by `more`
is_le-append : (base more : List Value) → is_le (values_cmp base (base ++ more)) ≡ true
is_le-append [] [] = refl
is_le-append [] (v ∷ more) = refl
is_le-append (v ∷ base) more = cc (tied_itself value_cmp-total v, is_le-append base more)

-- if v starts with base, base is less than or equal to v
pub base_not_greater : (base v : List Value) → IsPrefixOf base v → is_le (values_cmp base v) ≡ true
base_not_greater base v begins = grind (arith, is_le-append)
