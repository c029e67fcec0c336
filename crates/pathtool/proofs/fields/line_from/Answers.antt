use Rattle.std.proofs.Common.{[], ◌∷◌, ap, sym, ◌∙◌}
use Rattle.pathtool.proofs.lemmas.lines.SplitLemmas.{slice_split-one}
use Rattle.pathtool.specs.Steps.{tab}
use Rattle.pathtool.proofs.fields.line_from.Goals as goal

pub returns-in_default : goal.returns-in_default
returns-in_default c =
    let one = rw c.in_default.is at c.split_at_byte.ensures.value in
    one ∙ ap (λ field. field ∷ []) (sym (slice_split-one tab _ _ one))
