use Rattle.std.proofs.Common.{◌∙◌, rules, tests}
use Rattle.std.proofs.lemmas.Iterator.Splits.{YieldsList-from_slice_split}
use Rattle.std.proofs.lemmas.Iterator.Consumers.{YieldsList-at}
use Rattle.pathtool.specs.Fields.{fields_of}
use Rattle.pathtool.proofs.lemmas.answers.FieldLemmas.{edits_then-more, edits_then-bad}
use Rattle.pathtool.proofs.lemmas.answers.FieldLemmas.{edits_of_fields-known, edits_then-all}
use Rattle.pathtool.proofs.lemmas.lines.SplitLemmas.{is_tab}
use Rattle.pathtool.proofs.lemmas.lines.LoopLemmas.{IsStep, step_of}
use Rattle.pathtool.proofs.edits.edits_from.Goals as goal
use Rattle.pathtool.proofs.edits.edits_from.Goals.{After-next}

-- each step of the loop takes the next field, and the loop ends after the last field
field_step : (c : After-next)
    → IsStep (λ x. x.now) (fields_of c.args.fields.now) c.loop-field.yielded c.next.result
field_step c =
    step_of c.loop-field.yielded _ c.loop-field.yielded_by _ _ c.next.ensures.steps
    (YieldsList-at c.into_iter-field-iterator.ensures.into_iter_gives
    (YieldsList-from_slice_split _ is_tab c.args.fields.now c.split-field-items.ensures.rest
    c.split-field-items.ensures.done c.split-field-items.ensures.closure
    (λ x b q k. search (rules, tests))))

pub returns-in_default : goal.returns-in_default
returns-in_default c =
    edits_then-bad (λ x. x.now) _ _ _ c.loop-field.invariant c.in-Some.field c.edit_from.result
    (rw c.in-Some.is at (field_step (goal.at.returns-in_default c).After-next)) (search rules)
    c.edit_from.ensures
    ∙ edits_of_fields-known (fields_of c.args.fields.now)

pub loop-field-preserved : goal.loop-field-preserved
loop-field-preserved c =
    edits_then-more (λ x. x.now) _ _ _ c.loop-field.invariant _ _ _ _
    (rw c.in-Some.is at (field_step (goal.at.loop-field-preserved c).After-next))
    c.in-Some-edit_from.is c.edit_from.ensures c.in_ok-push.ensures.items

pub returns : goal.returns
returns c =
    edits_then-all (λ x. x.now) _ _ _ c.loop-field.invariant
    (rw c.in-None.is at (field_step (goal.at.returns c).After-next))
    ∙ edits_of_fields-known (fields_of c.args.fields.now)
