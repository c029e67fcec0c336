use Rattle.std.proofs.Common.{cond, eqb, ap, ◌∙◌}
use Rattle.std.specs.Simd.Lanes.{zip2}
use Rattle.unix_bytes.proofs.lemmas.vectors.SelectLemmas.{zip2-zip2}
use Rattle.unix_bytes.proofs.windows.min_after.Goals as goal

pub returns : goal.returns
returns c =
    c.select_eq.ensures
    ∙ ap (zip2 (λ b o. cond (eqb b 0xE0) 0xA0 o) c.args.bytes) c.select_eq-four.ensures
    ∙ zip2-zip2 _ _ 0 16 c.args.bytes c.fits-bytes.0
