use Rattle.std.proofs.Common.{rules, ◌≡◌}
use Rattle.std.specs.Ordering.{is_lt}
use Rattle.std.proofs.lemmas.Fn.{always_returns_same}
use Rattle.path_archive.specs.Slots.{slot_lt}
use Rattle.path_archive.proofs.lemmas.marks.OrderLemmas.{slots_weak}
use Rattle.path_archive.proofs.order.sort_slots.Goals as goal

pub returns-clause-sorted : goal.returns-clause-sorted
returns-clause-sorted c =
    c.sort_unstable_by.ensures.sorted (slot_lt c.args.records.now) (slots_weak c.args.records.now)
    (always_returns_same _
    (λ a r. is_lt r ≡ slot_lt c.args.records.now a.0.now a.1.0.now) _ (λ a r f k. search rules))
