use Rattle.std.proofs.Common.{◌≡◌, ◌∙◌, ◌∷◌, ◌++◌, ◌==◌, None, Some, append-nil, ap, ap₂}
use Rattle.std.proofs.Common.{arith, eqb, length, map, option_map, Bor, List, [], if◌then◌else◌}
use Rattle.std.proofs.Common.{Option, IfSome, false, rules, subst, subst₂, sym, ℕ}
use Rattle.std.specs.List.{starts_with}
use Rattle.unix_path.specs.Prefixes.{IsPrefixOf}
use Rattle.path_tree.specs.Children.{borrowed_child, child_entry, child_of, children_of}
use Rattle.path_keys.specs.KeyValues.{is_own}
use Rattle.path_tree.specs.Tree.{entries_of}
use Rattle.path_tree.proofs.lemmas.children.ChildWalkLemmas.{FindsChildren, begins_by, finds}
use Rattle.path_tree.proofs.lemmas.children.ChildWalkLemmas.{found_all, found_at_end, longer}
use Rattle.path_tree.proofs.lemmas.children.ChildWalkLemmas.{not_none, not_none_found, passed_fewer}
use Rattle.path_tree.proofs.lemmas.children.ChildWalkLemmas.{passes, rest_own, starts}
use Rattle.path_tree.proofs.lemmas.keys.ChildKeyLemmas.{child_begins, child_is_key}
use Rattle.path_tree.proofs.lemmas.entries.DifferenceLemmas.{map_push-append}
use Rattle.path_tree.proofs.tree.PathTree.children.Goals as goal
use Rattle.path_tree.proofs.lemmas.keys.OwnLemmas.{Key}
use Rattle.path_tree.proofs.tree.PathTree.children.Goals.{
  in_default,
  in-Some+in_default-begun_by+then-not-starts_with,
}

-- if k is `key`, and `key` doesn't start with the child that was found last, neither does k
without : (last : Option (Bor (List ℕ))) (key k : List ℕ)
    → IfSome last (λ child. starts_with eqb key child.now ≡ false) → key ≡ k
    → IfSome (option_map (λ (b : Bor (List ℕ)). b.now) last) (λ c. starts_with eqb k c ≡ false)
without None key k fails is = tt
without (Some child) key k fails is = ap (λ k. starts_with eqb k child.now) (sym is) ∙ fails

pub loop-key-init : goal.loop-key-init
loop-key-init g c = grind (arith, starts)

pub returns-in_err-set_end-clause-succeeds : goal.returns-in_err-set_end-clause-succeeds
returns-in_err-set_end-clause-succeeds g c = λ none.
    let tree = c.args.self.now in
    let base = c.vec_of-base.result.now.items in
    let is = c.in-Some-begun_by.ensures.some in
    absurd (not_none_found base tree.entries.entries c.range-rest.ensures.ordered
    c.loop-key.invariant c.in-Some-begun_by.child.now is.0
    (ap (λ b. children_of b (entries_of tree)) c.vec_of-base.ensures.bytes ∙ none))

pub loop-key-smaller-in-Some-begun_by : goal.loop-key-smaller-in-Some-begun_by
loop-key-smaller-in-Some-begun_by g c =
    let entries = c.args.self.now.entries.entries in
    let base = c.vec_of-base.result.now.items in
    let e : Key × g.row.V.Denot = (c.in-Some.key.now, c.in-Some.value.now) in
    let es = c.next.new.self in
    let is = c.in-Some-begun_by.ensures.some in
    let child = c.in-Some-begun_by.child.now in
    let steps : c.loop-key.rest ≡ e ∷ es = search rules in
    passed_fewer base entries c.range-rest.ensures.ordered c.loop-key.invariant child _ is.0 e es
    steps (subst (IsPrefixOf child) c.deref.ensures.value is.1) c.in_ok-set_end.ensures
    c.range-rest-in-Some-begun_by.result (c.range-rest-in-Some-begun_by.ensures.between tt)

pub loop-key-preserved-in-Some-begun_by : goal.loop-key-preserved-in-Some-begun_by
loop-key-preserved-in-Some-begun_by g c =
    let entries = c.args.self.now.entries.entries in
    let base = c.vec_of-base.result.now.items in
    let e : Key × g.row.V.Denot = (c.in-Some.key.now, c.in-Some.value.now) in
    let es = c.next.new.self in
    let is = c.in-Some-begun_by.ensures.some in
    let child = c.in-Some-begun_by.child.now in
    let steps : c.loop-key.rest ≡ e ∷ es = search rules in
    passes base entries c.range-rest.ensures.ordered c.loop-key.invariant child _ is.0 e es steps
    (subst (IsPrefixOf child) c.deref.ensures.value is.1) c.in_ok-set_end.ensures
    c.range-rest-in-Some-begun_by.result (c.range-rest-in-Some-begun_by.ensures.between tt)

pub child_key-child-requires-clause-own : goal.child_key-child-requires-clause-own
child_key-child-requires-clause-own g c =
    let tree = c.args.self.now in
    let entries = tree.entries.entries in
    let base = c.vec_of-base.result.now.items in
    let e : Key × g.row.V.Denot = (c.in-Some.key.now, c.in-Some.value.now) in
    let es = c.next.new.self in
    let steps : c.loop-key.rest ≡ e ∷ es = search rules in
    ap is_own c.deref-in-Some-2.ensures.value ∙ rest_own tree.own c.loop-key.invariant e es steps

pub child_key-child-requires-clause-below : goal.child_key-child-requires-clause-below
child_key-child-requires-clause-below g c =
    let base = c.vec_of-base.result.now.items in
    let begins : IsPrefixOf base c.in-Some.key.now.items =
    begins_by c.starts_with.ensures.value c.as_slice.ensures.value c.deref-in-Some.ensures.value
    (search rules) in
    subst₂ IsPrefixOf (sym c.deref-in-Some-3.ensures.value) (sym c.deref-in-Some-2.ensures.value)
    begins

pub child_key-child-requires-clause-longer : goal.child_key-child-requires-clause-longer
child_key-child-requires-clause-longer g c =
    let entries = c.args.self.now.entries.entries in
    let base = c.vec_of-base.result.now.items in
    let e : Key × g.row.V.Denot = (c.in-Some.key.now, c.in-Some.value.now) in
    let es = c.next.new.self in
    let steps : c.loop-key.rest ≡ e ∷ es = search rules in
    let begins : IsPrefixOf base c.in-Some.key.now.items =
    begins_by c.starts_with.ensures.value c.as_slice.ensures.value c.deref-in-Some.ensures.value
    (search rules) in
    omega (
      arith,
      longer base entries c.range-rest.ensures.ordered c.loop-key.invariant e es steps begins,
      ap length c.deref-in-Some-3.ensures.value,
      ap length c.deref-in-Some-2.ensures.value,
    )

pub returns-in_err-push-clause-succeeds : goal.returns-in_err-push-clause-succeeds
returns-in_err-push-clause-succeeds g c = λ none.
    let tree = c.args.self.now in
    let entries = tree.entries.entries in
    let base = c.vec_of-base.result.now.items in
    let e : Key × g.row.V.Denot = (c.in-Some.key.now, c.in-Some.value.now) in
    let es = c.next.new.self in
    let steps : c.loop-key.rest ≡ e ∷ es = search rules in
    let begins : IsPrefixOf base c.in-Some.key.now.items =
    begins_by c.starts_with.ensures.value c.as_slice.ensures.value c.deref-in-Some.ensures.value
    (search rules) in
    let key = c.in-Some.key.now.items in
    let own = rest_own tree.own c.loop-key.invariant e es steps in
    let more = longer base entries c.range-rest.ensures.ordered c.loop-key.invariant e es steps
    begins in
    absurd (not_none base entries c.range-rest.ensures.ordered c.loop-key.invariant e es steps
    begins
    (child_is_key base key own c.vec_of-base.ensures.own begins more)
    (child_begins base key own c.vec_of-base.ensures.own begins more)
    (without c.loop-key.last c.deref.result.now key (search rules) c.deref.ensures.value)
    (ap (λ b. children_of b (entries_of tree)) c.vec_of-base.ensures.bytes ∙ none))

pub loop-key-preserved : goal.loop-key-preserved
loop-key-preserved g c =
    let tree = c.args.self.now in
    let entries = tree.entries.entries in
    let base = c.vec_of-base.result.now.items in
    let e : Key × g.row.V.Denot = (c.in-Some.key.now, c.in-Some.value.now) in
    let es = c.next.new.self in
    let steps : c.loop-key.rest ≡ e ∷ es = search rules in
    let begins : IsPrefixOf base c.in-Some.key.now.items =
    begins_by c.starts_with.ensures.value c.as_slice.ensures.value c.deref-in-Some.ensures.value
    (search rules) in
    let key = c.in-Some.key.now.items in
    let own = rest_own tree.own c.loop-key.invariant e es steps in
    let more = longer base entries c.range-rest.ensures.ordered c.loop-key.invariant e es steps
    begins in
    let is : c.child_key-child.result.now ≡ child_of base key =
    c.child_key-child.ensures
    ∙ ap₂ child_of c.deref-in-Some-3.ensures.value c.deref-in-Some-2.ensures.value in
    let x = c.in-Some.value.now in
    let entry : borrowed_child c.with_value.result ≡ child_entry base (key, x) =
    c.with_value.ensures
    ∙ ap₂ (λ (k l : List ℕ). (k, if length k == length l then Some x else None)) is
    c.deref-in-Some-4.ensures.value in
    subst (λ k. FindsChildren base entries (Some k) es (map borrowed_child c.push.new.self.items))
    (sym is)
    (finds base entries c.range-rest.ensures.ordered c.loop-key.invariant e es steps begins
    (child_is_key base key own c.vec_of-base.ensures.own begins more)
    (child_begins base key own c.vec_of-base.ensures.own begins more)
    (without c.loop-key.last c.deref.result.now key (search rules) c.deref.ensures.value)
    (map borrowed_child c.push.new.self.items)
    (ap (map borrowed_child) c.in_ok-push.ensures.items
    ∙ sym (append-nil _)
    ∙ map_push-append borrowed_child c.loop-key.found.items c.with_value.result []
    ∙ ap (λ r. map borrowed_child c.loop-key.found.items ++ r ∷ []) entry))

pub returns-clause-entries : goal.returns-clause-entries
returns-clause-entries g c =
    let tree = c.args.self.now in
    let entries = tree.entries.entries in
    let base = c.vec_of-base.result.now.items in
    let all : map borrowed_child c.loop-key.found.items ≡ children_of base (entries_of tree) =
    elim c.match-next.branch [
      | in-Some+in_default-begun_by+then-not-starts_with w ↦
          let e : Key × g.row.V.Denot = (w.in-Some.key.now, w.in-Some.value.now) in
          let es = c.next.new.self in
          let steps : c.loop-key.rest ≡ e ∷ es = search rules in
          let fails : w.starts_with.result ≡ false = search rules in
          found_all base entries c.range-rest.ensures.ordered c.loop-key.invariant e es steps
          (ap₂ (starts_with eqb) (sym w.as_slice.ensures.value) (sym w.deref-in-Some.ensures.value)
          ∙ sym w.starts_with.ensures.value ∙ fails)
      | in_default w ↦
          let none : c.loop-key.rest ≡ [] = search rules in
          found_at_end base entries c.range-rest.ensures.ordered c.loop-key.invariant none
    ] in
    all ∙ ap (λ b. children_of b (entries_of tree)) c.vec_of-base.ensures.bytes
