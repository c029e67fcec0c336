use Rattle.std.proofs.Common.{rules, ◌≡◌, ◌≢◌, ◌≤◌, ◌<◌, ◌+◌, arith, length}
use Rattle.path_archive.proofs.lemmas.records.SplitLemmas.{one_own, slots_link, slots_own, two_own}
use Rattle.path_archive.proofs.records.put_slots.Goals as goal

pub returns-then-rank-ne-HARD_LINK-clause-count : goal.returns-then-rank-ne-HARD_LINK-clause-count
returns-then-rank-ne-HARD_LINK-clause-count c = λ r.
    (let other : c.args.found.rank ≢ 1 = search rules in
    let one = one_own r c.args.found c.args.entry c.requires.kind other in omega arith)

pub returns-then-rank-ne-HARD_LINK-clause-slots : goal.returns-then-rank-ne-HARD_LINK-clause-slots
returns-then-rank-ne-HARD_LINK-clause-slots c = λ r target room.
    (let other : c.args.found.rank ≢ 1 = search rules in
    let size : length c.put.new.slots ≡ length c.args.slots.now = search rules in
    let n_in : c.args.n < length c.args.slots.now = omega arith in
    slots_own r c.args.slots.now c.put.new.slots c.args.n c.args.found c.args.entry
    c.requires.kind other target n_in c.put.ensures)

pub returns-clause-count : goal.returns-clause-count
returns-clause-count c = λ r.
    (let link : c.args.found.rank ≡ 1 = search rules in
    let two = two_own r c.args.found c.args.entry link in omega arith)

pub returns-clause-slots : goal.returns-clause-slots
returns-clause-slots c = λ r target room.
    (let link : c.args.found.rank ≡ 1 = search rules in
    let size : length c.put-2.new.slots ≡ length c.put.new.slots = search rules in
    let size_before : length c.put.new.slots ≡ length c.args.slots.now = search rules in
    let n_in : c.args.n + 2 ≤ length c.args.slots.now = omega arith in
    slots_link r c.args.slots.now c.put.new.slots c.put-2.new.slots c.args.n c.args.found
    c.args.entry link n_in c.put.ensures c.put-2.ensures)
