use Rattle.std.proofs.Common.{◌≡◌, sym, ap, ap₂, ◌∙◌, drop}
use Rattle.std.proofs.lemmas.List.{take_rest}
use Rattle.unix_path.specs.Cursor.{cursor_rest, cursor_values}
use Rattle.unix_path.specs.Parts.{values}
use Rattle.path_within.proofs.lemmas.stack.BetweenLemmas.{shared_count}
use Rattle.path_within.proofs.lemmas.backward.SharedLemmas.{drop_shared, none_shared}
use Rattle.path_within.proofs.lemmas.backward.SharedLemmas.{none_shared_if_first_empty}
use Rattle.path_within.proofs.lemmas.backward.SharedLemmas.{none_shared_if_second_empty}
use Rattle.path_within.proofs.lemmas.backward.SharedLemmas.{after_shared_end, same_first}
use Rattle.path_within.proofs.relative.after_shared.Goals as goal
use Rattle.path_within.proofs.relative.after_shared.Goals.{After-as_path-in_default}
use Rattle.path_within.proofs.relative.after_shared.Goals.{in_default-via-in_default}
use Rattle.path_within.proofs.relative.after_shared.Goals.{in_default-via-in-Some+in_default}
use Rattle.path_within.proofs.relative.after_shared.Goals.{in_default-via-in-Some-Some+else-is_same}

pub loop-part-init : goal.loop-part-init
loop-part-init c =
    let first = c.components-rest.ensures.values in
    let second = c.components-other_rest.ensures.values in
    let both = ap₂ shared_count first second in
    let index = c.shared_end-index.result in
    let shared = c.shared_end-index.ensures.shared in
    let past = after_shared_end c.args.from.bytes.now c.args.to.bytes.now
    (record { shared = shared.0; first = shared.1; second = shared.2 })
    (c.from_bytes.ensures.bytes ∙ take_rest c.args.from.bytes.now index)
    (c.from_bytes-2.ensures.bytes ∙ take_rest c.args.to.bytes.now index) in
    record {
      first = ap₂ drop both first ∙ past.0;
      second = ap₂ drop both second ∙ past.1;
    }

pub loop-part-preserved : goal.loop-part-preserved
loop-part-preserved c =
    let first = rw c.in-Some-Some.is-0 at c.next.ensures.steps.item_is in
    let second = rw c.in-Some-Some.is-1 at c.next-in-loop-part.ensures.steps.item_is in
    let both = drop_shared first second (same_first (cursor_rest c.loop-part.rest)
    (cursor_rest c.loop-part.other_rest) first second ∙ sym c.is_same.ensures
    ∙ c.if-is_same.true) in
    record {
      first = both.0 ∙ c.loop-part.invariant.first;
      second = both.1 ∙ c.loop-part.invariant.second;
    }

-- when the loop ends, the rests of the two paths begin with no common component
none : (c : After-as_path-in_default)
    → shared_count (cursor_values c.loop-part.rest) (cursor_values c.loop-part.other_rest) ≡ 0
none c = elim c.in_default.branch [
  | in_default-via-in-Some-Some+else-is_same w ↦
      let first = rw w.in-Some-Some.is-0 at c.next.ensures.steps.item_is in
      let second = rw w.in-Some-Some.is-1 at c.next-in-loop-part.ensures.steps.item_is in
      none_shared first second (same_first (cursor_rest c.loop-part.rest)
      (cursor_rest c.loop-part.other_rest) first second ∙ sym w.is_same.ensures
      ∙ w.if-is_same.false)
  | in_default-via-in-Some+in_default w ↦ none_shared_if_second_empty
      (cursor_values c.loop-part.rest)
      (rw w.in_default.is-1 at c.next-in-loop-part.ensures.steps.item_is).0
  | in_default-via-in_default w ↦ none_shared_if_first_empty (cursor_values c.loop-part.other_rest)
      (rw w.in_default.is-0 at c.next.ensures.steps.item_is).0
]

pub returns-in_default-clause-first : goal.returns-in_default-clause-first
returns-in_default-clause-first c =
    let n = none (goal.at.returns-in_default-clause-first c).After-as_path-in_default in
    ap values c.as_path.ensures.bytes ∙ sym (ap (λ k. drop k (cursor_values c.loop-part.rest)) n)
    ∙ c.loop-part.invariant.first

pub returns-in_default-clause-second : goal.returns-in_default-clause-second
returns-in_default-clause-second c =
    let n = none (goal.at.returns-in_default-clause-second c).After-as_path-in_default in
    ap values c.as_path-in_default.ensures.bytes
    ∙ sym (ap (λ k. drop k (cursor_values c.loop-part.other_rest)) n) ∙ c.loop-part.invariant.second
