-- The first component in the rest of a walk, and the rest after it.
use Rattle.std.proofs.Common.{◌≡◌, ℕ, ◌+◌, ◌-◌, ◌≤◌, ◌<◌, List, [], ◌∷◌, length, map, take, drop}
use Rattle.std.proofs.Common.{Option}
use Rattle.std.proofs.Common.{Some, None, refl, sym, ap, ap₂, ◌∙◌, arith}
use Rattle.unix_path.specs.Parts as paths
use Rattle.unix_path.specs.Parts.{Value, parts, value_bytes, values}
use Rattle.unix_path.specs.Rest.{rest}
use Rattle.unix_path.specs.Cursor.{cursor_rest}
use Rattle.unix_path.specs.Views.{value_of}
use Rattle.unix_path.specs.declared.cursor.component.Component.{Component}
use Rattle.unix_path.specs.declared.cursor.walk.Components.{Components}
use Rattle.unix_path.specs.Cursor.{GivesFirstPart}
use Rattle.unix_path.proofs.lemmas.names.ParentLemmas.{values-whole}
use Rattle.unix_path.proofs.lemmas.parts.PlaceLemmas.{part_at, part_at-part_at}
use Rattle.unix_path.proofs.lemmas.rests.RestLemmas.{rest-rest}
use Rattle.unix_path.proofs.lemmas.parts.PartLemmas.{values-none}
use Rattle.unix_path_c.specs.Walks.{InOrder, remaining, part_bytes, part_end, part_in, part_value}
use Rattle.unix_path_c.specs.Walks.{remaining_parts, value_of_kind}
use Rattle.unix_path_c.specs.declared.walks.Part.{Part}
use Rattle.unix_path_c.specs.declared.walks.Walk.{Walk}
use Rattle.unix_path_c.proofs.lemmas.walks.RemainingLemmas.{is_between}
use Rattle.unix_path_c.proofs.lemmas.walks.RemainingLemmas.{part_value-is, remaining-in_range}
use Rattle.unix_path_c.proofs.lemmas.walks.RemainingLemmas.{range-remaining, take-remaining}
use Rattle.unix_path_c.proofs.lemmas.spans.FirstLemmas.{some_bytes, takes_from_front}

-- `part` is the first component in the rest of the walk `old`, and the components after it are
-- those in the rest of the walk `new`; the indices of `old`, `part` and `new` are in order
pub record TakenFromFront (path : List ℕ) (old new : Walk) (part : Part) : Type 0 where
  pub parts_are : remaining_parts path old ≡ part_in path part ∷ remaining_parts path new
  pub values_are : values (remaining path old)
      ≡ part_value path part ∷ values (remaining path new)
  pub bytes : part_bytes path part ≡ value_bytes (part_value path part)
  pub kind : part.kind < 4
  pub remaining_is : remaining path new ≡ rest (remaining path old) 1 0
  pub non_empty : remaining path old ≡ [] → ⊥
  pub in_order : InOrder
      (old.front ∷ part.start ∷ part_end part ∷ new.front ∷ new.back ∷ old.back ∷ length path ∷ [])

-- two components are equal if their indices and their values are equal
pub same_part : {a b c d : ℕ} {v w : Value} → a ≡ c → b ≡ d → v ≡ w
    → (let p : paths.Part = record { start = a; end = b; value = v } in p)
    ≡ record { start = c; end = d; value = w }
same_part {c = c} {d = d} {v = v} start end value =
    ap₂ (λ a b. record { start = a; end = b; value = v }) start end
    ∙ ap (λ v. record { start = c; end = d; value = v }) value

-- if `part` and the walk `new` are computed from the first component of the rest of the walk `old`,
-- the step from `old` to `new` removes that component
pub taken_from_front : (path : List ℕ) (old new : Walk) (part : Part) (v : Value)
    → values (remaining path old) ≡ v ∷ values (rest (remaining path old) 1 0)
    → part.start ≡ old.front → part.length ≡ length (value_bytes v)
    → v ≡ value_of_kind part.kind (value_bytes v) → part.kind < 4
    → new.back ≡ old.front + length (rest (remaining path old) 0 0)
    → new.front ≡ new.back - length (rest (remaining path old) 1 0)
    → TakenFromFront path old new part
taken_from_front path old new part v e start size kind few back front =
    let s = remaining path old in
    let n = length (rest s 0 0) in
    let m = length (rest s 1 0) in
    let k = length (value_bytes v) in
    let f = old.front in
    let t = takes_from_front s v (values (rest s 1 0)) e in
    let non_empty = some_bytes s (λ none. let no = sym none ∙ e in cc) in
    let h = is_between path old non_empty in
    let before = t.before in
    let fewer = t.fewer in
    let in_range = t.in_range in
    let long = h.size in
    let order = h.in_order in
    let fits = h.in_range in
    let first : part_bytes path part ≡ value_bytes v =
    ap (λ n. take n (drop part.start path)) size
    ∙ take-remaining path old s part.start 0 k h (omega arith) (omega arith) ∙ t.bytes in
    let value = part_value-is path part v kind first in
    let moved : f + (n - m) ≡ new.front = omega arith in
    let remaining_is : remaining path new ≡ rest s 1 0 =
    remaining-in_range path new (omega arith) (omega arith)
    ∙ range-remaining path old s new.front new.back (n - m) m h (omega arith) (omega arith)
    (omega arith) ∙ t.rest_bytes in
    record {
      parts_are = ap (map (part_at f)) t.is
          ∙ ap₂ (λ p ps. p ∷ ps) (same_part (omega arith) (omega arith) (sym value))
          (part_at-part_at f (n - m) (parts (rest s 1 0))
          ∙ ap₂ (λ i u. map (part_at i) (parts u)) moved (sym remaining_is));
      values_are = e ∙ ap₂ (λ v u. v ∷ values u) (sym value) (sym remaining_is);
      bytes = first ∙ ap value_bytes (sym value);
      kind = few;
      remaining_is = remaining_is;
      non_empty = λ nothing. absurd (omega (arith, non_empty, ap length nothing));
      in_order = (
        omega arith,
        (omega arith, (omega arith, (omega arith, (omega arith, (omega arith, tt))))),
      );
    }

-- if t is s, and `rest_bytes` is t without its trailing filler, then `rest_bytes` is s without its
-- trailing filler
pub rest-same : {s t rest_bytes : List ℕ} → rest_bytes ≡ rest t 0 0 → t ≡ s → rest_bytes
    ≡ rest s 0 0
rest-same is same = is ∙ ap (λ u. rest u 0 0) same

-- after one step from the front, the rest of a fresh cursor over s is the rest of s after its first
-- component
cursor_rest-first : (s : List ℕ) (old new : Components) (item : Option Component)
    → cursor_rest old ≡ rest s 0 0 → GivesFirstPart old item new → cursor_rest new ≡ rest s 1 0
cursor_rest-first s old new item whole h =
    h.rest_is ∙ ap (λ u. rest u 1 0) whole ∙ rest-rest s 0 0 1 0

-- the first component of a string is the one that a fresh cursor returns from the front
values-first : (s : List ℕ) (old new : Components) (x : Component)
    → cursor_rest old ≡ rest s 0 0 → GivesFirstPart old (Some x) new
    → values s ≡ value_of x ∷ values (rest s 1 0)
values-first s old new x whole h = sym (values-whole s (cursor_rest old) whole) ∙ h.item_is
    ∙ ap (λ u. value_of x ∷ values u) (cursor_rest-first s old new (Some x) whole h)

-- if a fresh cursor over s returns no component from the front, s is empty
pub nothing_first : (s : List ℕ) (old new : Components) → cursor_rest old ≡ rest s 0 0
    → GivesFirstPart old None new → s ≡ []
nothing_first s old new whole h =
    values-none s (sym (values-whole s (cursor_rest old) whole) ∙ h.item_is.0)

-- `whole`, the rest of the walk, lies in the path, and `behind`, the rest after the first
-- component, is no longer than `whole`
pub record FrontStepFits (path : List ℕ) (walk : Walk) (whole behind : List ℕ) : Type 0 where
  pub in_range : walk.front + length whole ≤ length path
  pub fewer : length behind ≤ length whole

-- `FrontStepFits` is true of the rest of a walk and of what remains of it after a fresh cursor over
-- it returned a component from the front
pub front_step_fits : (path : List ℕ) (walk : Walk) (old new : Components) (x : Component)
    (whole behind : List ℕ) → cursor_rest old ≡ rest (remaining path walk) 0 0
    → GivesFirstPart old (Some x) new → whole ≡ cursor_rest old → behind ≡ cursor_rest new
    → FrontStepFits path walk whole behind
front_step_fits path walk old new x whole behind w h all but =
    let s = remaining path walk in
    let e = values-first s old new x w h in
    let t = takes_from_front s (value_of x) (values (rest s 1 0)) e in
    let b = is_between path walk (some_bytes s (λ none. let no = sym none ∙ e in cc)) in
    let long = ap length (all ∙ w) in
    let less = ap length (but ∙ cursor_rest-first s old new (Some x) w h) in
    record {
      in_range = omega (arith, t.in_range, b.size, b.in_order, b.in_range, long);
      fewer = omega (arith, t.fewer, long, less);
    }

-- the step from the front that is computed from a fresh cursor over the rest of a walk removes the
-- component that the cursor returns
pub next_gives : (path : List ℕ) (walk : Walk) (old new : Components) (x : Component)
    (whole behind text : List ℕ) (kind : ℕ) → cursor_rest old ≡ rest (remaining path walk) 0 0
    → GivesFirstPart old (Some x) new → whole ≡ cursor_rest old → behind ≡ cursor_rest new
    → text ≡ value_bytes (value_of x)
    → value_of x ≡ value_of_kind kind (value_bytes (value_of x)) → kind < 4
    → TakenFromFront path walk (record {
      front = walk.front + length whole - length behind;
      back = walk.front + length whole;
    }) (record { start = walk.front; length = length text; kind = kind })
next_gives path walk old new x whole behind text kind w h all but bytes is few =
    let s = remaining path walk in
    taken_from_front path walk _ _ (value_of x) (values-first s old new x w h) refl
    (ap length bytes) is few (ap (λ u. walk.front + length u) (all ∙ w))
    (ap (λ u. walk.front + length whole - length u)
    (but ∙ cursor_rest-first s old new (Some x) w h))
