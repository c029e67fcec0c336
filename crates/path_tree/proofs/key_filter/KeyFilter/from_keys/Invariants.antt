use Rattle.path_tree.specs.KeyFilter.{may_contain}
use Rattle.path_tree.proofs.lemmas.keys.FilterLemmas.{FiltersRest}
use Rattle.path_tree.proofs.lemmas.keys.OwnLemmas.{Key}
use Rattle.path_tree.proofs.key_filter.KeyFilter.from_keys.Given as goal

abbrev pub invariant-loop-key : goal.invariant-loop-key
invariant-loop-key g l =
    (goal.iterator-loop-key g).can_next l.key-iterator
    × (goal.iterator-loop-key g).is_finite l.key-iterator
    × FiltersRest (λ (k : Key). k.items) (may_contain l.filter) l.key-iterator l.fn.entries.entries
