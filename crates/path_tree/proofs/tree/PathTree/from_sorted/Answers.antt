use Rattle.std.proofs.Common.{◌≡◌, ◌∷◌, ◌++◌, ◌∙◌, [], rules, subst, sym, true}
use Rattle.path_tree.proofs.lemmas.entries.SortedWalkLemmas.{Listed, listed_more, listed_none}
use Rattle.path_tree.proofs.lemmas.entries.SortedWalkLemmas.{made_entries, made_own, rise, stops}
use Rattle.path_tree.proofs.tree.PathTree.from_sorted.Goals as goal

pub loop-path-init : goal.loop-path-init
loop-path-init g c = subst (λ l. Listed l []) (sym c.new-entries.ensures.items) listed_none

pub returns-then-not-rises-clause-not_sorted : goal.returns-then-not-rises-clause-not_sorted
returns-then-not-rises-clause-not_sorted g c = λ _.
    let key = c.in_ok-key.key in
    let made = c.in_ok-key.ensures in
    stops c.loop-path.entries.items c.loop-path.yielded c.loop-path.invariant key c.in-Some.path
    made.own made.key
    g.I.Iterator.next_gives c.args.items c.in-Some.value c.next.new.self
    (search (
      rules,
      c.loop-path.yielded_by,
      c.in-Some.ensures.steps,
      c.into_iter-path-iterator.ensures.into_iter_gives,
    ))
    c.rises.result (search rules)
    (λ none. c.rises.ensures.first (c.deref.ensures.value ∙ none))
    (λ front last is. c.rises.ensures.others front last (c.deref.ensures.value ∙ is))

pub loop-path-preserved : goal.loop-path-preserved
loop-path-preserved g c =
    let key = c.in_ok-key.key in
    let made = c.in_ok-key.ensures in
    let rises : c.rises.result ≡ true = search rules in
    subst (λ l. Listed l (c.loop-path.yielded ++ (c.in-Some.path, c.in-Some.value) ∷ []))
    (sym c.in_ok-put_last.ensures)
    (listed_more c.loop-path.entries.items c.loop-path.yielded c.loop-path.invariant key
    c.in-Some.path made.own made.key c.in-Some.value
    (λ front last is. sym (c.rises.ensures.others front last (c.deref.ensures.value ∙ is))
    ∙ rises))

pub invariant_of-tree : goal.invariant_of-tree
invariant_of-tree g c =
    let made = c.in_ok-map_of.field-0 in
    record {
      own = made_own c.loop-path.entries.items c.loop-path.yielded c.loop-path.invariant
          made c.in_ok-map_of.ensures;
      filtered = λ k d l. c.accept_all.ensures _;
    }

pub returns-clause-ok : goal.returns-clause-ok
returns-clause-ok g c = record {
  yielded = c.loop-path.yielded;
  all_items = (
    c.next.new.self,
    (
      c.loop-path.path-iterator,
      search (rules, c.loop-path.yielded_by, c.into_iter-path-iterator.ensures.into_iter_gives),
      c.in-None.ensures.steps,
    ),
  );
  rise = rise c.loop-path.entries.items c.loop-path.yielded c.loop-path.invariant;
  entries_are = c.rebuild_filter.ensures
      ∙ made_entries c.loop-path.entries.items c.loop-path.yielded c.loop-path.invariant
      c.in_ok-map_of.field-0 c.in_ok-map_of.ensures;
}
