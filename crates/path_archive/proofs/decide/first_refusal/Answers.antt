use Rattle.std.proofs.Common.{arith}
use Rattle.path_archive.specs.Refusals.{IsFrom}
use Rattle.path_archive.proofs.lemmas.refusals.CollectLemmas.{first_starts, first_step, settles}
use Rattle.path_archive.proofs.decide.first_refusal.Goals as goal

pub loop-k-init : goal.loop-k-init
loop-k-init c = first_starts c.args.level c.args.records.now c.args.slots.now

pub loop-k-preserved : goal.loop-k-preserved
loop-k-preserved c =
    first_step c.args.level c.args.records.now c.args.slots.now c.loop-k.first c.refusal_at.result
    c.earlier-first.result c.loop-k.k c.loop-k.invariant c.refusal_at.ensures.some
    c.refusal_at.ensures.entry c.refusal_at.ensures.none c.earlier-first.ensures.one
    c.earlier-first.ensures.first c.earlier-first.ensures.next

pub returns-clause-others : goal.returns-clause-others
returns-clause-others c =
    settles c.args.level c.args.records.now c.args.slots.now (IsFrom c.loop-k.first)
    c.requires.marked (λ j d j_in. c.loop-k.invariant.done j d (omega arith))
