use Rattle.std.proofs.Common.{◌≡◌, ◌↔◌, [], map}
use Rattle.std.proofs.lemmas.Result.{IfOk-weaker}
use Rattle.path_archive.specs.Records.{OnEntries}
use Rattle.path_archive.specs.Refusals.{Decides, numbered_at, numbered_from}
use Rattle.path_archive.specs.Rule.{AcceptedAt}
use Rattle.path_archive.proofs.lemmas.refusals.DecideLemmas.{accepted_entries, decided_entries}
use Rattle.path_archive.proofs.lemmas.refusals.DecideLemmas.{marked_two}
use Rattle.path_archive.proofs.decide.refusals_of.Goals as goal

pub collect-requires-clause-two : goal.collect-requires-clause-two
collect-requires-clause-two c =
    marked_two c.args.records.now c.args.slots.now c.sort_slots.new.slots
    c.mark_clashes.new.slots c.requires c.sort_slots.ensures.permutation
    c.mark_clashes.ensures.same

pub returns-clause-refusals : goal.returns-clause-refusals
returns-clause-refusals c =
    let uses = map (numbered_at c.args.records.now) c.mark_clashes.new.slots in
    IfOk-weaker c.collect.result (λ list. Decides c.args.level uses list.items)
    (λ list. OnEntries c.args.records.now (λ entries.
    Decides c.args.level (numbered_from 0 entries) list.items))
    (λ list h. decided_entries c.args.level c.args.records.now c.args.slots.now
    c.sort_slots.new.slots c.mark_clashes.new.slots list.items c.requires
    c.sort_slots.ensures.permutation c.mark_clashes.ensures.same h) c.collect.ensures

pub returns-clause-accepted : goal.returns-clause-accepted
returns-clause-accepted c =
    let uses = map (numbered_at c.args.records.now) c.mark_clashes.new.slots in
    IfOk-weaker c.collect.result (λ list. Decides c.args.level uses list.items)
    (λ list. OnEntries c.args.records.now (λ entries.
    (list.items ≡ []) ↔ AcceptedAt c.args.level entries))
    (λ list h. accepted_entries c.args.level c.args.records.now c.args.slots.now
    c.sort_slots.new.slots c.mark_clashes.new.slots list.items c.requires
    c.sort_slots.ensures.permutation c.mark_clashes.ensures.same h) c.collect.ensures
