use Rattle.std.proofs.Common.{arith}
use Rattle.std.proofs.Common.{◌≡◌, ◌∷◌, ◌++◌, ◌∙◌, [], ℕ, List, ap, append_assoc, drop, eqb, false}
use Rattle.std.proofs.Common.{length, refl, rules, subst, sym, true}
use Rattle.std.proofs.lemmas.List.{map_push}
use Rattle.std.proofs.lemmas.List.Elements.{All-head, All-tail}
use Rattle.std.specs.List.{starts_with}
use Rattle.path_keys.specs.KeyValues.{is_own}
use Rattle.path_tree.specs.Entries.{key_entries}
use Rattle.path_tree.specs.Moved.{moved_entries, moved_entry}
use Rattle.path_tree.proofs.lemmas.children.ChildWalkLemmas.{begins_by}
use Rattle.path_tree.proofs.lemmas.entries.MovedLemmas.{leaves_entry, moves_entry}
use Rattle.path_tree.proofs.lemmas.entries.SortedWalkLemmas.{own_put}
use Rattle.path_tree.proofs.lemmas.keys.OwnLemmas.{Key, Own}
use Rattle.path_tree.proofs.tree.PathTree.moved.Goals as goal

pub moved_key-requires-clause-own : goal.moved_key-requires-clause-own
moved_key-requires-clause-own g c = grind (arith, All-head)

pub moved_key-requires-clause-begins : goal.moved_key-requires-clause-begins
moved_key-requires-clause-begins g c =
    begins_by c.starts_with.ensures.value (c.as_slice.ensures.value ∙ sym c.deref.ensures.value)
    refl c.if-starts_with.true

pub loop-key-preserved-in-Continue-branch-2 : goal.loop-key-preserved-in-Continue-branch-2
loop-key-preserved-in-Continue-branch-2 g c =
    let rest = c.next.new.self in
    let key = c.in-Some.key.now in
    let x = c.in-Some.value.now in
    let e : List ℕ × g.row.V.Denot = (key.items, x) in
    let steps : c.loop-key.key-iterator ≡ (key, x) ∷ rest = search rules in
    let all = subst (Own (λ (k : Key). k.items)) steps c.loop-key.invariant.2 in
    let from = c.args.from.now in
    let to = c.args.to.now in
    let k = c.in_ok-key.key in
    let done = key_entries c.loop-key.moved.items in
    let under : starts_with eqb e.0 from ≡ true =
    ap (λ b. starts_with eqb b from) (sym c.as_slice.ensures.value)
    ∙ sym c.starts_with.ensures.value ∙ c.if-starts_with.true in
    let later = moved_entries from to (key_entries rest) in
    let there : (k.items, x) ≡ moved_entry from to e =
    ap (λ b. (b, x)) (c.in_ok-key.ensures.bytes
    ∙ ap (λ b. to ++ drop (length from) b) c.deref.ensures.value) in (
      tt,
      tt,
      All-tail (λ (k : Key). is_own k.items ≡ true) _ _ all,
      subst (Own (λ (k : Key). k.items)) (sym c.in_ok-put_last.ensures)
          (own_put k x c.in_ok-key.ensures.own c.loop-key.moved.items c.loop-key.invariant.3),
      ap (λ es. key_entries es ++ later) c.in_ok-put_last.ensures
          ∙ ap (λ l. l ++ later) (map_push _ c.loop-key.moved.items (k, x))
          ∙ append_assoc done ((k.items, x) ∷ []) later
          ∙ ap (λ p. done ++ p ∷ later) there
          ∙ ap (λ l. done ++ l)
          (sym (moves_entry from to e (key_entries rest) under)
          ∙ ap (λ es. moved_entries from to (key_entries es)) (sym steps))
          ∙ c.loop-key.invariant.4,
    )

pub loop-key-preserved : goal.loop-key-preserved
loop-key-preserved g c =
    let rest = c.next.new.self in
    let key = c.in-Some.key.now in
    let x = c.in-Some.value.now in
    let e : List ℕ × g.row.V.Denot = (key.items, x) in
    let steps : c.loop-key.key-iterator ≡ (key, x) ∷ rest = search rules in
    let all = subst (Own (λ (k : Key). k.items)) steps c.loop-key.invariant.2 in
    let from = c.args.from.now in
    let to = c.args.to.now in
    let other : starts_with eqb e.0 from ≡ false =
    ap (λ b. starts_with eqb b from) (sym c.as_slice.ensures.value)
    ∙ sym c.starts_with.ensures.value ∙ c.if-starts_with.false in (
      tt,
      tt,
      All-tail (λ (k : Key). is_own k.items ≡ true) _ _ all,
      c.loop-key.invariant.3,
      ap (λ l. key_entries c.loop-key.moved.items ++ l)
          (sym (leaves_entry from to e (key_entries rest) other)
          ∙ ap (λ es. moved_entries from to (key_entries es)) (sym steps))
          ∙ c.loop-key.invariant.4,
    )
