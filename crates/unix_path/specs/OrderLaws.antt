-- The order of values and of their lists is total, and only equal values and equal lists compare as
-- equal.
use Rattle.std.proofs.Common.{◌≡◌, true, List, refl, ap}
use Rattle.std.specs.Ordering.{is_eq}
use Rattle.std.specs.Cmp.{IsTotalOrder, Equal-is}
use Rattle.std.specs.FinMap.{IsAntisymmetric, nat_cmp-IsAntisymmetric, slice_cmp-IsAntisymmetric}
use Rattle.std.proofs.lemmas.Cmp.{lists_total, then_total, on_total, nat_cmp_total}
use Rattle.std.proofs.lemmas.Cmp.{nat_list_cmp_total}
use Rattle.unix_path.specs.Parts.{Value, RootDir, CurDir, ParentDir, Normal, value_bytes}
use Rattle.unix_path.specs.Order.{rank, value_cmp, values_cmp}

pub value_cmp-total : IsTotalOrder value_cmp
value_cmp-total = then_total (on_total rank nat_cmp_total) (on_total value_bytes nat_list_cmp_total)

pub values_cmp-total : IsTotalOrder values_cmp
values_cmp-total = lists_total value_cmp-total

pub value_cmp-equal : IsAntisymmetric value_cmp
value_cmp-equal RootDir RootDir e = refl
value_cmp-equal CurDir CurDir e = refl
value_cmp-equal ParentDir ParentDir e = refl
value_cmp-equal (Normal n) (Normal m) e =
    ap Normal (slice_cmp-IsAntisymmetric nat_cmp-IsAntisymmetric n m e)
value_cmp-equal v w e = cc

pub values_cmp-equal : IsAntisymmetric values_cmp
values_cmp-equal = slice_cmp-IsAntisymmetric value_cmp-equal

-- lists of values that compare as equal are equal
pub is_eq-values_cmp : (v w : List Value) → is_eq (values_cmp v w) ≡ true → v ≡ w
is_eq-values_cmp v w e = values_cmp-equal v w ((Equal-is (values_cmp v w)).0 e)
