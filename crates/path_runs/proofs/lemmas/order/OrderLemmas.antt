-- Lists of components are equal if and only if they compare as equal, and also if they are prefixes
-- of each other.
use Rattle.std.proofs.Common.{◌≡◌, ◌↔◌, ◌⊎◌, inl, inr, List, ◌++◌, length, sym, ap, ◌∙◌}
use Rattle.std.proofs.Common.{arith}
use Rattle.std.proofs.Common.{append-nil, Ordering, Less, Equal, Greater}
use Rattle.std.proofs.Common.{length-append}
use Rattle.std.proofs.lemmas.Cmp.{tied_itself}
use Rattle.std.proofs.lemmas.List.{nil_from_length}
use Rattle.unix_path.specs.Parts.{Value}
use Rattle.std.specs.Ordering.{ordering_reverse}
use Rattle.unix_path.specs.Order.{values_cmp, IsBefore}
use Rattle.path_runs.specs.OrderLaws.{OneOrder}
use Rattle.unix_path.specs.OrderLaws.{values_cmp-total, values_cmp-equal}

-- lists of components compare as equal if and only if they are equal
pub values_cmp-ties : (v w : List Value) → (values_cmp v w ≡ Equal) ↔ (v ≡ w)
values_cmp-ties v w =
    (values_cmp-equal v w, λ e. ap (values_cmp v) (sym e) ∙ tied_itself values_cmp-total v)

-- if v followed by x is w, and w followed by y is v, then v is w, since neither is longer
pub begins_both_ways : (v w x y : List Value) → v ++ x ≡ w → w ++ y ≡ v → v ≡ w
begins_both_ways v w x y d e =
    let none = nil_from_length x
    (omega (arith, length-append v x, length-append w y, ap length d, ap length e)) in
    sym (append-nil v) ∙ ap (λ z. v ++ z) (sym none) ∙ d

-- if w is less than v, then v is greater than w
before-reversed : (v w : List Value) → IsBefore w v → values_cmp v w ≡ Greater
before-reversed v w before =
    values_cmp-total.antisymm v w ∙ ap ordering_reverse before

-- two lists of components are equal, or one of them is less than the other
one_of : (v w : List Value) (o : Ordering) → values_cmp v w ≡ o
    → (v ≡ w) ⊎ (IsBefore v w ⊎ IsBefore w v)
one_of v w Less is = inr (inl is)
one_of v w Equal is = inl (values_cmp-equal v w is)
one_of v w Greater is =
    inr (inr (values_cmp-total.antisymm w v ∙ ap ordering_reverse is))

-- for two lists of components, one and only one of these holds: they are equal, the first is less,
-- or the second is less
pub one_order : OneOrder
one_order v w = grind (arith, one_of, values_cmp-ties, before-reversed)
