use Rattle.std.proofs.Common.{rules, ◌≢◌, ◌<◌, arith, slice_index_or}
use Rattle.path_archive.specs.declared.slot.Slot.{Slot}
use Rattle.path_archive.proofs.lemmas.refusals.ReasonLemmas.{cause_clashes, clash_true}
use Rattle.path_archive.proofs.lemmas.refusals.ReasonLemmas.{forbidden_true}
use Rattle.path_archive.proofs.decide.refusal_at.Goals as goal

pub returns-in-Some-clause-some : goal.returns-in-Some-clause-some
returns-in-Some-clause-some c =
    forbidden_true c.args.level c.args.records.now c.args.slots.now c.args.k _ c.in-Some.reason
    c.requires.k_in c.in-Some.ensures.some

pub offset_bounds-slots-slot : goal.offset_bounds-slots-slot
offset_bounds-slots-slot c =
    let d : Slot = record { start = 0; end = 0; rank = 0; entry = 0; cause = 0 } in
    let other : (slice_index_or c.args.slots.now c.args.k d).cause ≢ c.args.k = search rules in
    let low : (slice_index_or c.args.slots.now c.args.k d).cause < c.args.k =
    (cause_clashes c.args.records.now c.args.slots.now c.args.k d d
    c.requires.k_in c.requires.marked other).0 in
    search rules

pub bounds-slots-slot : goal.bounds-slots-slot
bounds-slots-slot c =
    let d : Slot = record { start = 0; end = 0; rank = 0; entry = 0; cause = 0 } in
    let other : (slice_index_or c.args.slots.now c.args.k d).cause ≢ c.args.k = search rules in
    let low : (slice_index_or c.args.slots.now c.args.k d).cause < c.args.k =
    (cause_clashes c.args.records.now c.args.slots.now c.args.k d d
    c.requires.k_in c.requires.marked other).0 in
    let k_in = c.requires.k_in in
    omega arith

pub clash_reason-reason-requires : goal.clash_reason-reason-requires
clash_reason-reason-requires c =
    let d : Slot = record { start = 0; end = 0; rank = 0; entry = 0; cause = 0 } in
    let other : (slice_index_or c.args.slots.now c.args.k d).cause ≢ c.args.k = search rules in
    (cause_clashes c.args.records.now c.args.slots.now c.args.k d d
    c.requires.k_in c.requires.marked other).1

pub returns-clause-some : goal.returns-clause-some
returns-clause-some c =
    let d : Slot = record { start = 0; end = 0; rank = 0; entry = 0; cause = 0 } in
    let other : (slice_index_or c.args.slots.now c.args.k d).cause ≢ c.args.k = search rules in
    clash_true c.args.level c.args.records.now c.args.slots.now c.args.k d d
    c.clash_reason-reason.result c.requires.k_in c.requires.two
    (cause_clashes c.args.records.now c.args.slots.now c.args.k d d
    c.requires.k_in c.requires.marked other).0 c.clash_reason-reason.ensures
