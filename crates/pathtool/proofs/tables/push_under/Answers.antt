use Rattle.std.proofs.Common.{ap, ◌∙◌, map}
use Rattle.pathtool.specs.Fields.{tabs}
use Rattle.pathtool.specs.ExtraFields.{extra_fields}
use Rattle.pathtool.proofs.lemmas.answers.AddLemmas.{adds}
use Rattle.pathtool.proofs.lemmas.answers.TableLemmas.{row_spelling, under_answer-found}
use Rattle.pathtool.proofs.tables.push_under.Goals as goal

pub returns : goal.returns
returns c =
    adds c.push_all.result _ _
    (ap (λ paths. tabs (map row_spelling paths)) c.as_slice.ensures.value
    ∙ under_answer-found c.args.base.bytes.now (extra_fields c.args.extra) _ _ _
    c.in_ok-base.ensures.bytes c.in_ok-table.ensures c.in_ok-found.ensures.rows)
    c.push_all.ensures
