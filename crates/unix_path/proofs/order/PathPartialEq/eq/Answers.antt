use Rattle.std.proofs.Common.{sym, ◌∙◌}
use Rattle.unix_path.specs.OrderLaws.{is_eq-values_cmp}
use Rattle.unix_path.proofs.lemmas.order.EqualValueLemmas.{values_cmp-same}
use Rattle.unix_path.proofs.order.PathPartialEq.eq.Goals as goal

pub returns-clause-same : goal.returns-clause-same
returns-clause-same c =
    let is = c.is_same.ensures in
    (λ h. is_eq-values_cmp _ _ (sym is ∙ h), λ e. is ∙ values_cmp-same _ _ e)
