-- The last component in the rest of a walk, and the rest before it.
use Rattle.std.proofs.Common.{◌≡◌, ℕ, ◌+◌, ◌-◌, ◌≤◌, ◌<◌, List, [], ◌∷◌, ◌++◌, length, take, drop}
use Rattle.std.proofs.Common.{Option, Some, None, map, refl, sym, ap, ap₂, ◌∙◌, arith}
use Rattle.std.proofs.Common.{length-append}
use Rattle.std.proofs.lemmas.List.{map-append}
use Rattle.unix_path.specs.Parts.{Value, parts, value_bytes, values}
use Rattle.unix_path.specs.Rest.{rest}
use Rattle.unix_path.specs.Cursor.{cursor_rest}
use Rattle.unix_path.specs.Views.{value_of}
use Rattle.unix_path.specs.declared.cursor.component.Component.{Component}
use Rattle.unix_path.specs.declared.cursor.walk.Components.{Components}
use Rattle.unix_path.specs.Cursor.{GivesLastPart}
use Rattle.unix_path.proofs.lemmas.names.ParentLemmas.{rest-whole_last, values-whole}
use Rattle.unix_path.proofs.lemmas.parts.PlaceLemmas.{part_at}
use Rattle.unix_path.proofs.lemmas.parts.PartLemmas.{values-none}
use Rattle.unix_path_c.specs.Walks.{InOrder, remaining, part_bytes, part_end, part_in, part_value}
use Rattle.unix_path_c.specs.Walks.{remaining_parts, value_of_kind}
use Rattle.unix_path_c.specs.declared.walks.Part.{Part}
use Rattle.unix_path_c.specs.declared.walks.Walk.{Walk}
use Rattle.unix_path_c.proofs.lemmas.walks.TakeFirstLemmas.{same_part}
use Rattle.unix_path_c.proofs.lemmas.walks.RemainingLemmas.{is_between}
use Rattle.unix_path_c.proofs.lemmas.walks.RemainingLemmas.{part_value-is, remaining-in_range}
use Rattle.unix_path_c.proofs.lemmas.walks.RemainingLemmas.{range-remaining, take-remaining}
use Rattle.unix_path_c.proofs.lemmas.spans.FirstLemmas.{some_bytes}
use Rattle.unix_path_c.proofs.lemmas.spans.LastLemmas.{takes_from_back}

-- `part` is the last component in the rest of the walk `old`, and the components before it are
-- those in the rest of the walk `new`; the indices of `old`, `new` and `part` are in order
pub record TakenFromBack (path : List ℕ) (old new : Walk) (part : Part) : Type 0 where
  pub parts_are : remaining_parts path old ≡ remaining_parts path new ++ part_in path part ∷ []
  pub values_are : values (remaining path old)
      ≡ values (remaining path new) ++ part_value path part ∷ []
  pub bytes : part_bytes path part ≡ value_bytes (part_value path part)
  pub kind : part.kind < 4
  pub remaining_is : remaining path new ≡ rest (remaining path old) 0 1
  pub non_empty : remaining path old ≡ [] → ⊥
  pub in_order : InOrder
      (old.front ∷ new.front ∷ new.back ∷ part.start ∷ part_end part ∷ old.back ∷ length path ∷ [])

-- a list with a last component is not empty
not_none : {us : List Value} (vs : List Value) (v : Value) → us ≡ vs ++ v ∷ []
    → us ≡ [] → ⊥
not_none vs v e none =
    omega (arith, ap length (sym none ∙ e), length-append vs (v ∷ []))

-- if `part` and the walk `new` are computed from the last component of the rest of the walk `old`,
-- the step from `old` to `new` removes that component
pub taken_from_back : (path : List ℕ) (old new : Walk) (part : Part) (v : Value)
    → values (remaining path old) ≡ values (rest (remaining path old) 0 1) ++ v ∷ []
    → part.start ≡ old.front + length (rest (remaining path old) 0 0) - part.length
    → part.length ≡ length (value_bytes v) → v ≡ value_of_kind part.kind (value_bytes v)
    → part.kind < 4 → new.front ≡ old.front
    → new.back ≡ old.front + length (rest (remaining path old) 0 1)
    → TakenFromBack path old new part
taken_from_back path old new part v e start size kind few front back =
    let s = remaining path old in
    let n = length (rest s 0 0) in
    let m = length (rest s 0 1) in
    let k = length (value_bytes v) in
    let f = old.front in
    let t = takes_from_back s v (values (rest s 0 1)) e in
    let non_empty = some_bytes s (not_none (values (rest s 0 1)) v e) in
    let h = is_between path old non_empty in
    let before = t.before in
    let enough = t.fits in
    let in_range = t.in_range in
    let long = h.size in
    let order = h.in_order in
    let fits = h.in_range in
    let last : part_bytes path part ≡ value_bytes v =
    ap (λ n. take n (drop part.start path)) size
    ∙ take-remaining path old s part.start (n - k) k h (omega arith) (omega arith) ∙ t.bytes in
    let value = part_value-is path part v kind last in
    let remaining_is : remaining path new ≡ rest s 0 1 =
    remaining-in_range path new (omega arith) (omega arith)
    ∙ range-remaining path old s new.front new.back 0 m h (omega arith) (omega arith)
    (omega arith) ∙ t.rest_bytes in
    record {
      parts_are = ap (map (part_at f)) t.is
          ∙ map-append (part_at f) (parts (rest s 0 1)) _
          ∙ ap₂ (λ ps p. ps ++ p ∷ [])
          (ap₂ (λ i u. map (part_at i) (parts u)) (sym front) (sym remaining_is))
          (same_part (omega arith) (omega arith) (sym value));
      values_are = e ∙ ap₂ (λ u v. values u ++ v ∷ []) (sym remaining_is) (sym value);
      bytes = last ∙ ap value_bytes (sym value);
      kind = few;
      remaining_is = remaining_is;
      non_empty = λ nothing. absurd (omega (arith, non_empty, ap length nothing));
      in_order = (
        omega arith,
        (omega arith, (omega arith, (omega arith, (omega arith, (omega arith, tt))))),
      );
    }

-- after one step from the back, the rest of a fresh cursor over s is the rest of s before its last
-- component
cursor_rest-last : (s : List ℕ) (old new : Components) (item : Option Component)
    → cursor_rest old ≡ rest s 0 0 → GivesLastPart old item new → cursor_rest new ≡ rest s 0 1
cursor_rest-last s old new item whole h = rest-whole_last s whole h.rest_is

-- the last component of a string is the one that a fresh cursor returns from the back
values-last : (s : List ℕ) (old new : Components) (x : Component)
    → cursor_rest old ≡ rest s 0 0 → GivesLastPart old (Some x) new
    → values s ≡ values (rest s 0 1) ++ value_of x ∷ []
values-last s old new x whole h = sym (values-whole s (cursor_rest old) whole) ∙ h.item_is
    ∙ ap (λ u. values u ++ value_of x ∷ []) (cursor_rest-last s old new (Some x) whole h)

-- if a fresh cursor over s returns no component from the back, s is empty
pub nothing_last : (s : List ℕ) (old new : Components) → cursor_rest old ≡ rest s 0 0
    → GivesLastPart old None new → s ≡ []
nothing_last s old new whole h =
    values-none s (sym (values-whole s (cursor_rest old) whole) ∙ h.item_is.0)

-- `whole`, the rest of the walk, lies in the path; neither `text`, its last component, nor the
-- `rest_bytes` bytes before this component are longer than `whole`
pub record BackStepFits (path : List ℕ) (walk : Walk) (whole text : List ℕ) (rest_bytes : ℕ)
    : Type 0 where
  pub in_range : walk.front + length whole ≤ length path
  pub fits : length text ≤ length whole
  pub fewer : rest_bytes ≤ length whole

-- `BackStepFits` is true of the rest of a walk and of the component that a fresh cursor over this
-- rest returns from the back
pub back_step_fits : (path : List ℕ) (walk : Walk) (old new : Components) (x : Component)
    (whole text : List ℕ) → cursor_rest old ≡ rest (remaining path walk) 0 0
    → GivesLastPart old (Some x) new → whole ≡ cursor_rest old → text ≡ value_bytes (value_of x)
    → BackStepFits path walk whole text (length (cursor_rest new))
back_step_fits path walk old new x whole text w h all bytes =
    let s = remaining path walk in
    let vs = values (rest s 0 1) in
    let e = values-last s old new x w h in
    let t = takes_from_back s (value_of x) vs e in
    let b = is_between path walk (some_bytes s (not_none vs (value_of x) e)) in
    let long = ap length (all ∙ w) in
    let size = ap length bytes in
    let less = ap length (cursor_rest-last s old new (Some x) w h) in
    record {
      in_range = omega (arith, t.in_range, b.size, b.in_order, b.in_range, long);
      fits = omega (arith, t.fits, long, size);
      fewer = omega (arith, t.before, t.fits, long, less);
    }

-- the step from the back that is computed from a fresh cursor over the rest of a walk removes the
-- component that the cursor returns
pub next_back_gives : (path : List ℕ) (walk : Walk) (old new : Components) (x : Component)
    (whole before text : List ℕ) (kind : ℕ) → cursor_rest old ≡ rest (remaining path walk) 0 0
    → GivesLastPart old (Some x) new → whole ≡ cursor_rest old → before ≡ cursor_rest new
    → text ≡ value_bytes (value_of x)
    → value_of x ≡ value_of_kind kind (value_bytes (value_of x)) → kind < 4
    → TakenFromBack path walk
    (record { front = walk.front; back = walk.front + length before })
    (record {
      start = walk.front + length whole - length text;
      length = length text;
      kind = kind;
    })
next_back_gives path walk old new x whole before text kind w h all but bytes is few =
    let s = remaining path walk in
    taken_from_back path walk _ _ (value_of x) (values-last s old new x w h)
    (ap (λ u. walk.front + length u - length text) (all ∙ w)) (ap length bytes) is few refl
    (ap (λ u. walk.front + length u) (but ∙ cursor_rest-last s old new (Some x) w h))
