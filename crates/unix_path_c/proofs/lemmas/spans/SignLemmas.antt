-- The sign of an order, -1, 0 or 1, determines the order of two lists of components.
use Rattle.std.proofs.Common.{◌≡◌, ◌↔◌, zero, suc, ℤ, pos, negsuc, List, refl, sym, ap, ◌∙◌}
use Rattle.std.specs.declared.cmp.Ordering.{Ordering}
use Rattle.std.specs.declared.cmp.Ordering.TheVariants.{Less, Equal, Greater}
use Rattle.std.specs.Ordering.{ordering_reverse}
use Rattle.std.proofs.lemmas.Cmp.{tied_itself}
use Rattle.unix_path.specs.Order.{values_cmp, IsBefore}
use Rattle.unix_path.specs.OrderLaws.{values_cmp-total, values_cmp-equal}
use Rattle.unix_path.specs.Parts.{Value}
use Rattle.unix_path_c.specs.Queries.{sign_of}

-- the order whose sign this number is
abbrev order_of : ℤ → Ordering
order_of (negsuc n) = Less
order_of (pos zero) = Equal
order_of (pos (suc n)) = Greater

-- the order whose sign is `sign_of o` is o
order_of-sign_of : (o : Ordering) → order_of (sign_of o) ≡ o
order_of-sign_of Less = refl
order_of-sign_of Equal = refl
order_of-sign_of Greater = refl

-- if n is the sign of the order o, o is `order_of n`
order_from : (o : Ordering) (n : ℤ) → n ≡ sign_of o → o ≡ order_of n
order_from o n e = sym (order_of-sign_of o) ∙ ap order_of (sym e)

-- the sign n of the order of v and w is -1 if and only if v comes before w
pub sign-less : (v w : List Value) (n : ℤ) → n ≡ sign_of (values_cmp v w)
    → (n ≡ negsuc 0) ↔ IsBefore v w
sign-less v w n e = (
  λ less. order_from (values_cmp v w) n e ∙ ap order_of less,
  λ before. e ∙ ap sign_of before,
)

-- the sign n of the order of v and w is 0 if and only if v and w are equal
pub sign-equal : (v w : List Value) (n : ℤ) → n ≡ sign_of (values_cmp v w)
    → (n ≡ pos 0) ↔ (v ≡ w)
sign-equal v w n e = (
  λ equal. values_cmp-equal v w (order_from (values_cmp v w) n e ∙ ap order_of equal),
  λ same. e ∙ ap sign_of (ap (λ (u : List Value). values_cmp v u) (sym same)
      ∙ tied_itself values_cmp-total v),
)

-- the sign n of the order of v and w is 1 if and only if w comes before v
pub sign-greater : (v w : List Value) (n : ℤ) → n ≡ sign_of (values_cmp v w)
    → (n ≡ pos 1) ↔ IsBefore w v
sign-greater v w n e = (
  λ greater. values_cmp-total.antisymm w v
      ∙ ap ordering_reverse (order_from (values_cmp v w) n e ∙ ap order_of greater),
  λ before. e ∙ ap sign_of (values_cmp-total.antisymm v w ∙ ap ordering_reverse before),
)
