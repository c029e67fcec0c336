use Rattle.std.proofs.Common.{rules, ◌≡◌, ap, ap₂, ◌∙◌, w32, to_z, of_z}
use Rattle.unix_path.specs.Order.{values_cmp}
use Rattle.unix_path.specs.Parts.{values}
use Rattle.unix_path_c.specs.Queries.{sign_of}
use Rattle.unix_path_c.proofs.lemmas.spans.SignLemmas.{sign-less, sign-equal, sign-greater}
use Rattle.unix_path_c.proofs.queries.unix_path_compare.Goals as goal

pub returns-clause-value : goal.returns-clause-value
returns-clause-value c =
    let passed : to_z w32 (of_z w32 c.sign.result) ≡ c.sign.result = search rules in
    passed ∙ c.sign.ensures ∙ ap sign_of (c.cmp.ensures
    ∙ ap₂ (λ s t. values_cmp (values s) (values t)) c.from_bytes.ensures.bytes
    c.from_bytes-2.ensures.bytes)

pub returns-clause-less : goal.returns-clause-less
returns-clause-less c =
    sign-less (values c.args.a.now) (values c.args.b.now) _ (returns-clause-value c)

pub returns-clause-equal : goal.returns-clause-equal
returns-clause-equal c =
    sign-equal (values c.args.a.now) (values c.args.b.now) _ (returns-clause-value c)

pub returns-clause-greater : goal.returns-clause-greater
returns-clause-greater c =
    sign-greater (values c.args.a.now) (values c.args.b.now) _ (returns-clause-value c)
