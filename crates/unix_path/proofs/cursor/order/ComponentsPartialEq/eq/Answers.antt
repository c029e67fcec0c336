use Rattle.std.proofs.Common.{sym, ap₂, ◌∙◌}
use Rattle.std.specs.Ordering.{is_eq}
use Rattle.unix_path.specs.Order.{values_cmp}
use Rattle.unix_path.specs.Parts.{values}
use Rattle.unix_path.specs.OrderLaws.{is_eq-values_cmp}
use Rattle.unix_path.proofs.lemmas.order.EqualValueLemmas.{values_cmp-same}
use Rattle.unix_path.proofs.cursor.order.ComponentsPartialEq.eq.Goals as goal

pub returns-clause-same : goal.returns-clause-same
returns-clause-same c =
    let is = c.is_same.ensures
    ∙ ap₂ (λ s t. is_eq (values_cmp (values s) (values t))) c.as_path.ensures.bytes
    c.as_path-2.ensures.bytes in
    (λ h. is_eq-values_cmp _ _ (sym is ∙ h), λ e. is ∙ values_cmp-same _ _ e)
