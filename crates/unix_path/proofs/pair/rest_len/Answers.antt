use Rattle.std.proofs.Common.{[], refl, sym, ap₂, arith, ◌∙◌}
use Rattle.unix_path.specs.Order.{values_cmp}
use Rattle.unix_path.proofs.lemmas.order.AfterCutLemmas.{after_filler-is, values-past}
use Rattle.unix_path.proofs.lemmas.order.ComparisonLemmas.{values_cmp-end}
use Rattle.unix_path.proofs.lemmas.parts.PartLemmas.{values-nil}
use Rattle.unix_path.proofs.pair.rest_len.Goals as goal

pub returns-clause-after : goal.returns-clause-after
returns-clause-after c =
    let rest_bytes = c.after_filler.result.now in
    values_cmp-end rest_bytes [] (λ _. refl)
    ∙ ap₂ values_cmp (sym (values-past c.args.bytes.now rest_bytes (after_filler-is _ _
    c.after_filler.ensures.tail c.after_filler.ensures.filler c.after_filler.ensures.not_filler)))
    values-nil

pub returns-clause-before : goal.returns-clause-before
returns-clause-before c =
    let rest_bytes = c.after_filler.result.now in
    values_cmp-end [] rest_bytes (λ some. absurd (omega (arith, some)))
    ∙ ap₂ values_cmp values-nil
    (sym (values-past c.args.bytes.now rest_bytes (after_filler-is _ _
    c.after_filler.ensures.tail c.after_filler.ensures.filler c.after_filler.ensures.not_filler)))
