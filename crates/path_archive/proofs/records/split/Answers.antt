use Rattle.std.proofs.Common.{◌≡◌, ◌≤◌, arith, length}
use Rattle.path_archive.proofs.lemmas.records.SplitLemmas.{split_ends, split_starts, split_step}
use Rattle.path_archive.proofs.records.split.Goals as goal

pub loop-at-init : goal.loop-at-init
loop-at-init c = split_starts c.args.records.now c.args.slots.now

pub loop-at-preserved : goal.loop-at-preserved
loop-at-preserved c =
    let size : length c.put_slots-count.new.slots ≡ length c.loop-at.slots = omega arith in
    split_step c.args.records.now c.loop-at.at c.loop-at.entry c.loop-at.count
    c.put_slots-count.result c.loop-at.slots c.put_slots-count.new.slots c.in_ok-found.found
    c.loop-at.invariant c.in_ok-found.ensures.range size c.in_ok-found.ensures.some
    (c.put_slots-count.ensures.count c.args.records.now)
    (c.put_slots-count.ensures.slots c.args.records.now c.in_ok-found.ensures.target)

pub returns-clause-some : goal.returns-clause-some
returns-clause-some c =
    let end : length c.args.records.now ≤ c.loop-at.at = omega arith in
    split_ends c.args.records.now c.loop-at.at c.loop-at.entry c.loop-at.count c.loop-at.slots
    c.loop-at.invariant end
