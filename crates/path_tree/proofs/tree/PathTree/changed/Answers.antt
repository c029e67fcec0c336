use Rattle.std.proofs.lemmas.Grind.{common_steps}
use Rattle.std.proofs.Common.{arith}
use Rattle.std.proofs.Common.{◌≡◌, ◌∷◌, ◌++◌, ◌∙◌, ℕ, false, true, List, None, Some, ap, map}
use Rattle.std.proofs.Common.{rules, subst, sym}
use Rattle.path_tree.specs.Changed.{borrowed_both, entries_changed}
use Rattle.path_tree.specs.Cursor.{cursor_entries}
use Rattle.path_tree.specs.Entries.{entry_at, key_entries}
use Rattle.path_tree.specs.Tree.{entries_of}
use Rattle.path_tree.proofs.lemmas.entries.ChangedLemmas.{absent_entry, changed_entry, equal_entry}
use Rattle.path_tree.proofs.lemmas.entries.ChangedLemmas.{both_keys-lent, sorted-changed}
use Rattle.path_tree.proofs.lemmas.entries.EntryLemmas.{sorted-key_entries}
use Rattle.path_tree.proofs.lemmas.entries.DifferenceLemmas.{map_push-append, some_append}
use Rattle.path_tree.proofs.lemmas.entries.MergeLemmas.{Merges, merges_first, merges_more}
use Rattle.path_tree.proofs.tree.PathTree.changed.Goals as goal

pub loop-key-init : goal.loop-key-init
loop-key-init g c =
    let tree = c.args.self.now in
    let other = entries_of c.args.other.now in
    let now = cursor_entries c.merge_cursor-others.result in
    let eq = g.V.PartialEq.eq in
    let all_left = c.into_iter-key-iterator.result in
    let all : all_left ≡ tree.entries.entries = search rules in (
      tt,
      tt,
      subst (λ l. Merges other now (key_entries l)) (sym all)
          (merges_first other now (entries_of tree) c.merge_cursor-others.ensures
          (sorted-key_entries tree.entries.entries c.iter-key-items.ensures.ordered)),
      ap (λ items. map borrowed_both items ++ entries_changed eq other (key_entries all_left))
          c.new-found.ensures.items
          ∙ ap (λ entries. entries_changed eq other (key_entries entries)) all,
    )

pub loop-key-preserved-in-Continue-1 : goal.loop-key-preserved-in-Continue-1
loop-key-preserved-in-Continue-1 g c =
    let other = entries_of c.args.other.now in
    let eq = g.V.PartialEq.eq in
    let rest = c.next.new.self in
    let key = c.in-Some.key.now in
    let x = c.in-Some.value.now in
    let e : List ℕ × g.row.V.Denot = (key.items, x) in
    let now = cursor_entries c.loop-key.others in
    let found = map borrowed_both c.loop-key.found.items in
    let steps : c.loop-key.key-iterator ≡ (key, x) ∷ rest = search rules in
    let h : Merges other now (e ∷ key_entries rest) =
    subst (λ l. Merges other now (key_entries l)) steps c.loop-key.invariant.2 in
    let y = c.in-Some-find.other_value.now in
    let is : entry_at e.0 other ≡ Some y = sym h.same.0 ∙ sym c.in-Some-find.ensures.value in
    let differ : eq x y ≡ false = search rules in
    let later = entries_changed eq other (key_entries rest) in (
      tt,
      tt,
      merges_more other now _ e.0 c.in-Some-find.ensures.greater x (key_entries rest) h,
      ap (λ items. map borrowed_both items ++ later) c.in_ok-push.ensures.items
          ∙ map_push-append borrowed_both c.loop-key.found.items
          (c.as_slice.result, c.in-Some.value, c.in-Some-find.other_value) later
          ∙ ap (λ k. found ++ (k, x, y) ∷ later) c.as_slice.ensures.value
          ∙ ap (λ es. found ++ es) (sym (changed_entry eq other e (key_entries rest) y is differ))
          ∙ ap (λ entries. found ++ entries_changed eq other (key_entries entries)) (sym steps)
          ∙ c.loop-key.invariant.3,
    )

pub returns-in_err-push-clause-succeeds : goal.returns-in_err-push-clause-succeeds
returns-in_err-push-clause-succeeds g c = grind (arith, some_append, changed_entry)

pub loop-key-preserved-else-not-eq : goal.loop-key-preserved-else-not-eq
loop-key-preserved-else-not-eq g c =
    let other = entries_of c.args.other.now in
    let eq = g.V.PartialEq.eq in
    let rest = c.next.new.self in
    let key = c.in-Some.key.now in
    let x = c.in-Some.value.now in
    let e : List ℕ × g.row.V.Denot = (key.items, x) in
    let now = cursor_entries c.loop-key.others in
    let found = map borrowed_both c.loop-key.found.items in
    let steps : c.loop-key.key-iterator ≡ (key, x) ∷ rest = search rules in
    let h : Merges other now (e ∷ key_entries rest) =
    subst (λ l. Merges other now (key_entries l)) steps c.loop-key.invariant.2 in
    let y = c.in-Some-find.other_value.now in
    let is : entry_at e.0 other ≡ Some y = sym h.same.0 ∙ sym c.in-Some-find.ensures.value in
    let same : eq x y ≡ true = search rules in (
      tt,
      tt,
      merges_more other now _ e.0 c.in-Some-find.ensures.greater x (key_entries rest) h,
      ap (λ es. found ++ es) (sym (equal_entry eq other e (key_entries rest) y is same))
          ∙ ap (λ entries. found ++ entries_changed eq other (key_entries entries)) (sym steps)
          ∙ c.loop-key.invariant.3,
    )

pub loop-key-preserved : goal.loop-key-preserved
loop-key-preserved g c =
    let other = entries_of c.args.other.now in
    let eq = g.V.PartialEq.eq in
    let rest = c.next.new.self in
    let key = c.in-Some.key.now in
    let x = c.in-Some.value.now in
    let e : List ℕ × g.row.V.Denot = (key.items, x) in
    let now = cursor_entries c.loop-key.others in
    let found = map borrowed_both c.loop-key.found.items in
    let steps : c.loop-key.key-iterator ≡ (key, x) ∷ rest = search rules in
    let h : Merges other now (e ∷ key_entries rest) =
    subst (λ l. Merges other now (key_entries l)) steps c.loop-key.invariant.2 in
    let none : entry_at e.0 other ≡ None = sym h.same.0 ∙ sym c.in_default.ensures.value in (
      tt,
      tt,
      merges_more other now _ e.0 c.in_default.ensures.greater x (key_entries rest) h,
      ap (λ es. found ++ es) (sym (absent_entry eq other e (key_entries rest) none))
          ∙ ap (λ entries. found ++ entries_changed eq other (key_entries entries)) (sym steps)
          ∙ c.loop-key.invariant.3,
    )

pub returns-clause-ordered : goal.returns-clause-ordered
returns-clause-ordered g c =
    grind (arith, common_steps, both_keys-lent, sorted-changed, sorted-key_entries)
