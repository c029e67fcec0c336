use Rattle.std.proofs.lemmas.Grind.{common_steps}
use Rattle.std.proofs.Common.{arith}
use Rattle.std.proofs.Common.{◌≡◌, ◌∷◌, ◌++◌, ◌∙◌, ℕ, false, true, List, ap, map, rules, subst}
use Rattle.std.proofs.Common.{sym}
use Rattle.std.specs.Option.{is_some}
use Rattle.std.specs.Map.Iter.{deref_pair}
use Rattle.path_tree.specs.Cursor.{cursor_entries}
use Rattle.path_tree.specs.Difference.{entries_lacking}
use Rattle.path_tree.specs.Entries.{entry_at, key_entries}
use Rattle.path_tree.specs.Tree.{entries_of}
use Rattle.path_tree.proofs.lemmas.entries.EntryLemmas.{sorted-key_entries}
use Rattle.path_tree.proofs.lemmas.entries.DifferenceLemmas.{has_entry, lacks_entry}
use Rattle.path_tree.proofs.lemmas.entries.DifferenceLemmas.{map_push-append, some_append}
use Rattle.path_tree.proofs.lemmas.entries.MergeLemmas.{Merges, merges_first, merges_more}
use Rattle.path_tree.proofs.lemmas.entries.WalkLemmas.{sorted-filter}
use Rattle.path_tree.proofs.tree.PathTree.difference.Goals as goal

pub loop-key-init : goal.loop-key-init
loop-key-init g c =
    let tree = c.args.self.now in
    let other = entries_of c.args.other.now in
    let now = cursor_entries c.merge_cursor-others.result in
    let all_left = c.into_iter-key-iterator.result in
    let all : all_left ≡ tree.entries.entries = search rules in (
      tt,
      tt,
      subst (λ l. Merges other now (key_entries l)) (sym all)
          (merges_first other now (entries_of tree) c.merge_cursor-others.ensures
          (sorted-key_entries tree.entries.entries c.iter-key-items.ensures.ordered)),
      ap (λ items. map deref_pair items ++ entries_lacking other (key_entries all_left))
          c.new-found.ensures.items
          ∙ ap (λ entries. entries_lacking other (key_entries entries)) all,
    )

pub loop-key-preserved-in-Continue-1 : goal.loop-key-preserved-in-Continue-1
loop-key-preserved-in-Continue-1 g c =
    let other = entries_of c.args.other.now in
    let rest = c.next.new.self in
    let key = c.in-Some.key.now in
    let e : List ℕ × g.row.V.Denot = (key.items, c.in-Some.value.now) in
    let now = cursor_entries c.loop-key.others in
    let found = map deref_pair c.loop-key.found.items in
    let later = entries_lacking other (key_entries rest) in
    let steps : c.loop-key.key-iterator ≡ (key, c.in-Some.value.now) ∷ rest = search rules in
    let h : Merges other now (e ∷ key_entries rest) =
    subst (λ l. Merges other now (key_entries l)) steps c.loop-key.invariant.2 in
    let is : entry_at e.0 now ≡ entry_at e.0 other = h.same.0 in
    let lacks : is_some (entry_at e.0 other) ≡ false = search rules in (
      tt,
      tt,
      merges_more other now _ e.0 c.find.ensures.greater e.1 (key_entries rest) h,
      ap (λ items. map deref_pair items ++ later) c.in_ok-push.ensures.items
          ∙ map_push-append deref_pair c.loop-key.found.items
          (c.as_slice.result, c.in-Some.value) later
          ∙ ap (λ k. found ++ (k, c.in-Some.value.now) ∷ later) c.as_slice.ensures.value
          ∙ ap (λ es. found ++ es) (sym (lacks_entry other e (key_entries rest) lacks))
          ∙ ap (λ entries. found ++ entries_lacking other (key_entries entries)) (sym steps)
          ∙ c.loop-key.invariant.3,
    )

pub returns-in_err-push-clause-succeeds : goal.returns-in_err-push-clause-succeeds
returns-in_err-push-clause-succeeds g c = grind (arith, some_append, lacks_entry)

pub loop-key-preserved : goal.loop-key-preserved
loop-key-preserved g c =
    let other = entries_of c.args.other.now in
    let rest = c.next.new.self in
    let key = c.in-Some.key.now in
    let e : List ℕ × g.row.V.Denot = (key.items, c.in-Some.value.now) in
    let now = cursor_entries c.loop-key.others in
    let found = map deref_pair c.loop-key.found.items in
    let steps : c.loop-key.key-iterator ≡ (key, c.in-Some.value.now) ∷ rest = search rules in
    let h : Merges other now (e ∷ key_entries rest) =
    subst (λ l. Merges other now (key_entries l)) steps c.loop-key.invariant.2 in
    let is : entry_at e.0 now ≡ entry_at e.0 other = h.same.0 in
    let has : is_some (entry_at e.0 other) ≡ true = search rules in (
      tt,
      tt,
      merges_more other now _ e.0 c.find.ensures.greater e.1 (key_entries rest) h,
      ap (λ es. found ++ es) (sym (has_entry other e (key_entries rest) has))
          ∙ ap (λ entries. found ++ entries_lacking other (key_entries entries)) (sym steps)
          ∙ c.loop-key.invariant.3,
    )

pub returns-clause-ordered : goal.returns-clause-ordered
returns-clause-ordered g c = grind (arith, common_steps, sorted-filter, sorted-key_entries)
