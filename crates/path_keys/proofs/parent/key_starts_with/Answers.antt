use Rattle.std.proofs.Common.{◌++◌, ap, sym, ◌∙◌}
use Rattle.path_keys.proofs.lemmas.values.BeginLemmas.{begins_told}
use Rattle.path_keys.proofs.lemmas.values.CodeLemmas.{values-coded}
use Rattle.path_keys.proofs.lemmas.values.OrderLemmas.{key_of-begins, begins-key_of}
use Rattle.path_keys.proofs.parent.key_starts_with.Goals as goal

pub returns-clause-bytes : goal.returns-clause-bytes
returns-clause-bytes c =
    begins_told c.args.key.now c.args.base.now c.starts_with.result c.starts_with.ensures.value

pub returns-clause-values : goal.returns-clause-values
returns-clause-values c = λ s t d e.
    let told = begins_told c.args.key.now c.args.base.now c.starts_with.result
    c.starts_with.ensures.value in (
      λ is.
          let begins = told.0 is in
          key_of-begins _ _ (values-coded t) (values-coded s) begins.0
          (ap (λ k. k ++ begins.0) e ∙ begins.1 ∙ sym d),
      λ begins.
          let whole = begins-key_of _ _ begins in
          told.1 (whole.0, ap (λ k. k ++ whole.0) (sym e) ∙ whole.1 ∙ d),
    )
