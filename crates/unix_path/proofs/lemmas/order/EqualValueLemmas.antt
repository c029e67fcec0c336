-- Equal components, and equal lists of components, compare as equal.
use Rattle.std.proofs.Common.{◌≡◌, true, List, Decides, sym, ap, ◌∙◌}
use Rattle.std.specs.Cmp.{Equal-is}
use Rattle.std.specs.Ordering.{is_eq}
use Rattle.std.proofs.lemmas.Cmp.{tied_itself}
use Rattle.unix_path.specs.Parts.{Value}
use Rattle.unix_path.specs.Order.{same_value, value_cmp, values_cmp}
use Rattle.unix_path.specs.OrderLaws.{value_cmp-equal, value_cmp-total, values_cmp-total}

pub values_cmp-same : (v w : List Value) → v ≡ w → is_eq (values_cmp v w) ≡ true
values_cmp-same v w e =
    ap is_eq (ap (values_cmp v) (sym e) ∙ tied_itself values_cmp-total v)

-- `same_value` of two components is true if and only if they are equal
pub same_value-Decides : (v w : Value) → Decides (same_value v w) (v ≡ w)
same_value-Decides v w = (
  λ e. value_cmp-equal v w ((Equal-is (value_cmp v w)).0 e),
  λ e. ap (same_value v) (sym e) ∙ ap is_eq (tied_itself value_cmp-total v),
)
