use Rattle.std.proofs.Common.{rules, tests}
use Rattle.std.proofs.lemmas.Iterator.Splits.{YieldsList-from_slice_split}
use Rattle.std.proofs.lemmas.Iterator.Consumers.{YieldsList-at}
use Rattle.pathtool.specs.Fields.{fields_of}
use Rattle.pathtool.proofs.lemmas.lines.LoopLemmas.{IsStep, step_of}
use Rattle.pathtool.proofs.lemmas.lines.SplitLemmas.{is_tab}
use Rattle.pathtool.proofs.lemmas.answers.TableLemmas.{entries_with-more, entries_with-all}
use Rattle.pathtool.proofs.tables.insert_paths.Goals as goal
use Rattle.pathtool.proofs.tables.insert_paths.Goals.{After-next}

-- each step of the loop takes the next field, and the loop ends after the last field
field_step : (c : After-next)
    → IsStep (λ x. x.now) (fields_of c.args.fields.now) c.loop-bytes.yielded c.next.result
field_step c =
    step_of c.loop-bytes.yielded _ c.loop-bytes.yielded_by _ _ c.next.ensures.steps
    (YieldsList-at c.into_iter-bytes-iterator.ensures.into_iter_gives
    (YieldsList-from_slice_split _ is_tab c.args.fields.now c.split-bytes-items.ensures.rest
    c.split-bytes-items.ensures.done c.split-bytes-items.ensures.closure
    (λ x b q k. search (rules, tests))))

pub loop-bytes-preserved : goal.loop-bytes-preserved
loop-bytes-preserved c =
    entries_with-more (λ x. x.now) _ _ _ _ c.loop-bytes.invariant _ _
    (rw c.in-Some.is at (field_step (goal.at.loop-bytes-preserved c).After-next))
    c.in_ok-insert_path.ensures

pub returns : goal.returns
returns c =
    entries_with-all (λ x. x.now) _ _ _ _ c.loop-bytes.invariant
    (rw c.in-None.is at (field_step (goal.at.returns c).After-next))
