use Rattle.std.proofs.Common.{arith}
use Rattle.std.proofs.Common.{◌≡◌, ◌∷◌, ◌∙◌, ap, ap₂, subst, sym, Greater, Equal, Less}
use Rattle.std.specs.List.Sorted.{IsStrictlySortedBy}
use Rattle.std.specs.Map.{keys_of}
use Rattle.path_keys.specs.Ranges.{bytes_cmp}
use Rattle.path_tree.specs.Entries.{entries_from, key_entries}
use Rattle.path_tree.proofs.lemmas.entries.CursorLemmas.{FindsSame, entries_from-step, equal_is}
use Rattle.path_tree.proofs.lemmas.entries.CursorLemmas.{greater_is, greater_rest}
use Rattle.path_tree.proofs.lemmas.entries.CursorLemmas.{less_is, same_more}
use Rattle.path_tree.proofs.lemmas.entries.CursorLemmas.{sorted_rest_from, value_at_end}
use Rattle.path_tree.proofs.lemmas.entries.CursorLemmas.{value_first, value_passed}
use Rattle.path_tree.proofs.lemmas.entries.EntryLemmas.{sorted-key_entries}
use Rattle.path_tree.proofs.lemmas.keys.OwnLemmas.{Key}
use Rattle.path_tree.proofs.tree.merge_cursor.EntryWalk.find.Goals as goal

pub returns-then-is_gt-clause-value : goal.returns-then-is_gt-clause-value
returns-then-is_gt-clause-value g c =
    let key = c.args.key.now.items in
    let self = c.args.self.now in
    let now = c.loop-self.self in
    let other = c.in-Some.other.now in
    let e : Key × g.row.V.Denot = (other, c.in-Some.value.now) in
    let compared : bytes_cmp other.items key ≡ Greater =
    ap₂ bytes_cmp (sym c.deref.ensures.value) (sym c.deref-in-Some.ensures.value)
    ∙ sym c.compare_bytes-order.ensures
    ∙ greater_is _ (sym c.is_gt.ensures ∙ c.if-is_gt.true) in
    let all : entries_from now.next now.rest ≡ e ∷ now.rest =
    ap (λ f. entries_from f now.rest) c.in-Some.is in
    value_passed key (key_entries (entries_from self.next self.rest))
    (key_entries (entries_from now.next now.rest)) c.loop-self.invariant
    (other.items, c.in-Some.value.now) (key_entries now.rest) (ap key_entries all)
    (subst (λ l. IsStrictlySortedBy bytes_cmp (keys_of (key_entries l))) all
    (sorted-key_entries (entries_from now.next now.rest) now.sorted)) compared

pub invariant_of-self : goal.invariant_of-self
invariant_of-self g c =
    let now = c.loop-self.self in
    let all = entries_from now.next now.rest in
    let rest = entries_from c.next-self.result c.next-self.new.self in
    let first : Key × g.row.V.Denot = (c.in-Some.other.now, c.in-Some.value.now) in
    let steps : all ≡ first ∷ rest =
    entries_from-step now.next now.rest (c.in-Some.other, c.in-Some.value) c.next-self.result
    c.next-self.new.self c.in-Some.is c.next-self.ensures.steps in
    record { sorted = sorted_rest_from all first rest steps now.sorted }

pub returns-then-is_eq-clause-value : goal.returns-then-is_eq-clause-value
returns-then-is_eq-clause-value g c =
    let key = c.args.key.now.items in
    let self = c.args.self.now in
    let now = c.loop-self.self in
    let other = c.in-Some.other.now in
    let compared : bytes_cmp other.items key ≡ Equal =
    ap₂ bytes_cmp (sym c.deref.ensures.value) (sym c.deref-in-Some.ensures.value)
    ∙ sym c.compare_bytes-order.ensures
    ∙ equal_is _ (sym c.is_eq.ensures ∙ c.if-is_eq.true) in
    value_first key (key_entries (entries_from self.next self.rest))
    (key_entries (entries_from now.next now.rest)) c.loop-self.invariant
    (other.items, c.in-Some.value.now) (key_entries now.rest)
    (ap (λ f. key_entries (entries_from f now.rest)) c.in-Some.is) compared

pub returns-then-is_eq-clause-greater : goal.returns-then-is_eq-clause-greater
returns-then-is_eq-clause-greater g c =
    let key = c.args.key.now.items in
    let self = c.args.self.now in
    let now = c.loop-self.self in
    let other = c.in-Some.other.now in
    let all = entries_from now.next now.rest in
    let rest = entries_from c.next-self.result c.next-self.new.self in
    let first : Key × g.row.V.Denot = (other, c.in-Some.value.now) in
    let steps : all ≡ first ∷ rest =
    entries_from-step now.next now.rest (c.in-Some.other, c.in-Some.value) c.next-self.result
    c.next-self.new.self c.in-Some.is c.next-self.ensures.steps in
    let compared : bytes_cmp other.items key ≡ Equal =
    ap₂ bytes_cmp (sym c.deref.ensures.value) (sym c.deref-in-Some.ensures.value)
    ∙ sym c.compare_bytes-order.ensures
    ∙ equal_is _ (sym c.is_eq.ensures ∙ c.if-is_eq.true) in
    greater_rest key (key_entries (entries_from self.next self.rest)) (key_entries all)
    c.loop-self.invariant (other.items, c.in-Some.value.now) (key_entries rest)
    (ap key_entries steps) compared

pub loop-self-preserved : goal.loop-self-preserved
loop-self-preserved g c =
    let key = c.args.key.now.items in
    let self = c.args.self.now in
    let now = c.loop-self.self in
    let other = c.in-Some.other.now in
    let all = entries_from now.next now.rest in
    let rest = entries_from c.next-self.result c.next-self.new.self in
    let first : Key × g.row.V.Denot = (other, c.in-Some.value.now) in
    let steps : all ≡ first ∷ rest =
    entries_from-step now.next now.rest (c.in-Some.other, c.in-Some.value) c.next-self.result
    c.next-self.new.self c.in-Some.is c.next-self.ensures.steps in
    let compared : bytes_cmp other.items key ≡ Less =
    ap₂ bytes_cmp (sym c.deref.ensures.value) (sym c.deref-in-Some.ensures.value)
    ∙ sym c.compare_bytes-order.ensures
    ∙ less_is _ (sym c.is_gt.ensures ∙ c.if-is_gt.false) (sym c.is_eq.ensures ∙ c.if-is_eq.false) in
    let before = key_entries (entries_from self.next self.rest) in
    same_more key before (other.items, c.in-Some.value.now) (key_entries rest)
    (subst (λ l. FindsSame key before (key_entries l)) steps c.loop-self.invariant) compared

pub returns-clause-value : goal.returns-clause-value
returns-clause-value g c = grind (arith, value_at_end)
