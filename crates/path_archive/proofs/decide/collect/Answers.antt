use Rattle.std.proofs.Common.{◌≤◌, arith, length}
use Rattle.path_archive.proofs.lemmas.refusals.CollectLemmas.{collect_step, collected}
use Rattle.path_archive.proofs.decide.collect.Goals as goal

pub loop-k-preserved : goal.loop-k-preserved
loop-k-preserved c =
    collect_step c.args.level c.args.records.now c.args.slots.now c.loop-k.list.items _ c.loop-k.k
    c.refusal_at.result c.loop-k.invariant c.refusal_at.ensures.some c.refusal_at.ensures.entry
    c.refusal_at.ensures.none c.in_ok-put.ensures

pub returns : goal.returns
returns c =
    let end : length c.args.slots.now ≤ c.loop-k.k = omega arith in
    collected c.args.level c.args.records.now c.args.slots.now c.loop-k.list.items c.loop-k.k end
    c.requires.marked c.loop-k.invariant
