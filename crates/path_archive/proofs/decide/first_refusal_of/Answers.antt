use Rattle.path_archive.proofs.lemmas.refusals.DecideLemmas.{first_of_entries, marked_two}
use Rattle.path_archive.proofs.lemmas.refusals.DecideLemmas.{none_first}
use Rattle.path_archive.proofs.decide.first_refusal_of.Goals as goal

pub first_refusal-requires-clause-two : goal.first_refusal-requires-clause-two
first_refusal-requires-clause-two c =
    marked_two c.args.records.now c.args.slots.now c.sort_slots.new.slots
    c.mark_clashes.new.slots c.requires c.sort_slots.ensures.permutation
    c.mark_clashes.ensures.same

pub returns-clause-some : goal.returns-clause-some
returns-clause-some c =
    first_of_entries c.args.level c.args.records.now c.args.slots.now c.sort_slots.new.slots
    c.mark_clashes.new.slots c.first_refusal.result c.requires c.sort_slots.ensures.permutation
    c.mark_clashes.ensures.same c.first_refusal.ensures.some c.first_refusal.ensures.others

pub returns-clause-none : goal.returns-clause-none
returns-clause-none c = λ none.
    none_first c.args.level c.args.records.now c.args.slots.now c.sort_slots.new.slots
    c.mark_clashes.new.slots c.first_refusal.result c.requires c.sort_slots.ensures.permutation
    c.mark_clashes.ensures.same c.first_refusal.ensures.others none
