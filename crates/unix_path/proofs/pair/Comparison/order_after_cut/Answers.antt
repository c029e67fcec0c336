use Rattle.std.proofs.Common.{[], refl, sym, ap₂, ◌∙◌}
use Rattle.unix_path.specs.Order.{values_cmp}
use Rattle.unix_path.proofs.lemmas.order.AfterCutLemmas.{values_cmp-shared}
use Rattle.unix_path.proofs.lemmas.order.ComparisonLemmas.{values_cmp-end}
use Rattle.unix_path.proofs.lemmas.order.CommonPrefixLemmas.{inner_values-nil}
use Rattle.unix_path.proofs.lemmas.parts.PartLemmas.{values-nil}
use Rattle.unix_path.proofs.pair.Comparison.order_after_cut.Goals as goal
use Rattle.unix_path.proofs.lemmas.filler.FillerLemmas.{values-not_filler}

pub returns-in-StartsWith : goal.returns-in-StartsWith
returns-in-StartsWith c = λ s t h.
    let rest_bytes = c.in-StartsWith.rest_bytes.now in
    c.cmp.ensures ∙ values_cmp-end rest_bytes [] (λ _. refl)
    ∙ ap₂ values_cmp (values-not_filler rest_bytes c.in-StartsWith.ensures.1)
    (values-nil ∙ sym inner_values-nil)
    ∙ values_cmp-shared (c.in-StartsWith.ensures.0.shares s t h)
