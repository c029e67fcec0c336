-- The rest of a walk, by the walk's indices.
use Rattle.std.proofs.Common.{◌≡◌, ℕ, ◌+◌, ◌-◌, ◌≤◌, ◌<◌, ◌&&◌, cond, eqb, leb, ltb, List, []}
use Rattle.std.proofs.Common.{length}
use Rattle.std.proofs.Common.{◌⊎◌, ⊎_elim, min, take, drop, map, refl, sym, ap, ap₂, ◌∙◌, arith}
use Rattle.std.proofs.Common.{drop-drop, take-take, take_all, ltb-true, ltb-false}
use Rattle.std.specs.Prelude.{slice_range}
use Rattle.std.proofs.Math.Nat.{min-le_right}
use Rattle.std.proofs.lemmas.Bool.{and_parts, le-leb, leb-true}
use Rattle.std.proofs.lemmas.List.{drop-take, nil_from_length}
use Rattle.unix_path.specs.Parts.{RootDir, CurDir, ParentDir, Normal, Value, parts, value_bytes}
use Rattle.unix_path.specs.Parts.{values}
use Rattle.unix_path.specs.Rest.{rest}
use Rattle.unix_bytes.proofs.lemmas.lists.ListLemmas.{by_test, length-range}
use Rattle.unix_path.proofs.lemmas.rests.MiddleLemmas.{middle_of, rest-middle}
use Rattle.unix_path.proofs.lemmas.names.ParentLemmas.{values-whole}
use Rattle.unix_path.proofs.lemmas.parts.PartLemmas.{rest-nil}
use Rattle.unix_path.proofs.lemmas.parts.PlaceLemmas.{part_at, part_at-zero}
use Rattle.unix_path.proofs.lemmas.rests.RestLemmas.{middle_of-at, take-rest}
use Rattle.unix_path.proofs.lemmas.names.StemLemmas.{length-rest_whole-le}
use Rattle.unix_path_c.specs.Spans.{span_bytes, span_end}
use Rattle.unix_path_c.specs.Walks.{remaining, part_bytes, part_value, remaining_parts}
use Rattle.unix_path_c.specs.Walks.{value_of_kind}
use Rattle.unix_path_c.specs.declared.spans.Span.{Span}
use Rattle.unix_path_c.specs.declared.walks.Part.{Part}
use Rattle.unix_path_c.specs.declared.walks.Walk.{Walk}

-- the walk's indices are in the path, in order, and s consists of the bytes between them
pub record Between (path : List ℕ) (walk : Walk) (s : List ℕ) : Type 0 where
  pub in_order : walk.front ≤ walk.back
  pub in_range : walk.back ≤ length path
  pub is : s ≡ slice_range path walk.front walk.back
  pub size : length s ≡ walk.back - walk.front

-- if a byte remains, the walk's indices are in the path, in order
pub is_between : (path : List ℕ) (walk : Walk) → 0 < length (remaining path walk)
    → Between path walk (remaining path walk)
unfolding remaining
is_between path walk some =
    let s = slice_range path walk.front walk.back in
    by_test (leb walk.front walk.back && leb walk.back (length path))
    (λ e.
    let both = and_parts _ _ e in
    let in_range = leb-true walk.back (length path) both.1 in
    let is : remaining path walk ≡ s = ap (λ c. cond c s []) e in
    record {
      in_order = leb-true walk.front walk.back both.0;
      in_range = in_range;
      is = is;
      size = ap length is ∙ length-range path walk.front walk.back in_range;
    })
    (λ e.
    let none : length (remaining path walk) ≡ 0 = ap (λ c. length (cond c s [])) e in
    absurd (omega (arith, some, none)))

-- if the walk's indices are in the path, in order, the bytes between them remain
pub remaining-in_range : (path : List ℕ) (walk : Walk) → walk.front ≤ walk.back
    → walk.back ≤ length path → remaining path walk ≡ slice_range path walk.front walk.back
unfolding remaining
remaining-in_range path walk in_order in_range =
    ap₂ (λ a b. cond (a && b) (slice_range path walk.front walk.back) [])
    (le-leb walk.front walk.back in_order) (le-leb walk.back (length path) in_range)

-- if the walk's indices are out of order or past the path's end, no byte remains
pub remaining-outside : (path : List ℕ) (walk : Walk)
    → (walk.back < walk.front) ⊎ (length path < walk.back) → remaining path walk ≡ []
unfolding remaining
remaining-outside path walk outside =
    let s = slice_range path walk.front walk.back in
    by_test (leb walk.front walk.back && leb walk.back (length path))
    (λ e.
    let both = and_parts _ _ e in
    let in_order = leb-true walk.front walk.back both.0 in
    let in_range = leb-true walk.back (length path) both.1 in
    ⊎_elim (λ less. absurd (omega arith)) (λ past. absurd (omega arith)) outside)
    (λ e. ap (λ c. cond c s []) e)

-- if the range of the path from index a to b has k bytes from its index i on, these are the k bytes
-- of the path from index a + i on
pub take-range : (path : List ℕ) (a b i k : ℕ) → i + k ≤ b - a
    → take k (drop i (slice_range path a b)) ≡ take k (drop (a + i) path)
take-range path a b i k l =
    ap (λ x. take k (drop i (take x (drop a path)))) {x = b - a} {y = i + (b - a - i)}
    (omega (arith, l))
    ∙ ap (take k) (drop-take i (b - a - i) (drop a path))
    ∙ take-take k (b - a - i) (drop i (drop a path)) (omega (arith, l))
    ∙ ap (take k) (drop-drop i a path)

-- if s is the rest of the walk, and has k bytes from index i on, these are the k bytes of the path
-- from index `walk.front + i` on
pub take-remaining : (path : List ℕ) (walk : Walk) (s : List ℕ) (from i k : ℕ)
    → Between path walk s → i + k ≤ length s → from ≡ walk.front + i
    → take k (drop from path) ≡ take k (drop i s)
take-remaining path walk s from i k h l start =
    ap (λ j. take k (drop j path)) start
    ∙ sym (take-range path walk.front walk.back i k (omega (arith, l, h.size)))
    ∙ ap (λ s. take k (drop i s)) (sym h.is)

-- if s is the rest of the walk, and has k bytes from index i on, these are the bytes of the path
-- from index `walk.front + i` to k bytes after it
pub range-remaining : (path : List ℕ) (walk : Walk) (s : List ℕ) (from to i k : ℕ)
    → Between path walk s → i + k ≤ length s → from ≡ walk.front + i → to ≡ from + k
    → slice_range path from to ≡ take k (drop i s)
range-remaining path walk s from to i k h l start end =
    let size : to - from ≡ k = omega (arith, end) in
    ap (λ n. take n (drop from path)) size ∙ take-remaining path walk s from i k h l start

-- a record that has v's bytes, and a kind with which these bytes are v, is the component v
pub part_value-is : (path : List ℕ) (part : Part) (v : Value)
    → v ≡ value_of_kind part.kind (value_bytes v) → part_bytes path part ≡ value_bytes v
    → part_value path part ≡ v
part_value-is path part v kind bytes = ap (value_of_kind part.kind) bytes ∙ sym kind

-- a component with a kind has this kind with its own bytes
pub value_of_kind-again : (kind : ℕ) (bytes : List ℕ)
    → value_of_kind kind bytes ≡ value_of_kind kind (value_bytes (value_of_kind kind bytes))
value_of_kind-again kind bytes = by_test (eqb kind 0) (λ e. rw e refl)
    (λ e. by_test (eqb kind 1) (λ f. rw (e, f) refl)
    (λ f. by_test (eqb kind 2) (λ g. rw (e, f, g) refl) (λ g. rw (e, f, g) refl)))

-- the components of a path without its trailing filler are those of the path
pub parts-whole : (s : List ℕ) → parts (rest s 0 0) ≡ parts s
parts-whole s =
    let h = middle_of s 0 0 in
    ap parts (rest-middle s 0 0 h) ∙ sym (part_at-zero (parts h.rest_bytes))
    ∙ ap (λ i. map (part_at i) (parts h.rest_bytes)) (sym (middle_of-at s 0)) ∙ sym h.is
    ∙ take_all (length (parts s) - (0 + 0)) (parts s) (omega arith)

-- the walk goes from the first byte to the end of the last component
pub record IsFresh (path : List ℕ) (walk : Walk) : Type 0 where
  pub remaining_is : remaining path walk ≡ rest path 0 0
  pub parts_are : remaining_parts path walk ≡ parts path
  pub values_are : values (remaining path walk) ≡ values path
  pub in_order : walk.front ≤ walk.back
  pub in_range : walk.back ≤ length path

-- a walk from 0 to the end of the last component is fresh
pub is_fresh : (path : List ℕ) (walk : Walk) → walk.front ≡ 0
    → walk.back ≡ length (rest path 0 0) → IsFresh path walk
is_fresh path walk front back =
    let in_range : walk.back ≤ length path = omega (arith, back, length-rest_whole-le path) in
    let size : walk.back - walk.front ≡ length (rest path 0 0) = omega (arith, front, back) in
    let is : remaining path walk ≡ rest path 0 0 =
    remaining-in_range path walk (omega (arith, front)) in_range
    ∙ ap₂ (λ n i. take n (drop i path)) size front ∙ take-rest path 0 in
    record {
      remaining_is = is;
      values_are = values-whole path (remaining path walk) is;
      parts_are = ap₂ (λ i s. map (part_at i) (parts s)) front is
          ∙ part_at-zero (parts (rest path 0 0)) ∙ parts-whole path;
      in_order = omega (arith, front);
      in_range = in_range;
    }

-- the span is the rest of the walk, without trailing filler
pub record IsRestSpan (path : List ℕ) (walk : Walk) (span : Span) : Type 0 where
  pub bytes : span_bytes path span ≡ rest (remaining path walk) 0 0
  pub same : values (span_bytes path span) ≡ values (remaining path walk)
  pub in_range : span_end span ≤ length path

-- if a span inside the path has the bytes of the rest, it is the span of the rest
is_rest_span-at : (path : List ℕ) (walk : Walk) (span : Span)
    → span_bytes path span ≡ rest (remaining path walk) 0 0 → span_end span ≤ length path
    → IsRestSpan path walk span
is_rest_span-at path walk span bytes in_range = record {
  bytes = bytes;
  same = values-whole (remaining path walk) (span_bytes path span) bytes;
  in_range = in_range;
}

-- if a span starts at the walk's first index, or at the path's end if this index is past it, and is
-- as long as the rest without trailing filler, it is the span of the rest
pub is_rest_span : (path : List ℕ) (walk : Walk) (span : Span)
    → span.start ≡ min walk.front (length path)
    → span.length ≡ length (rest (remaining path walk) 0 0) → IsRestSpan path walk span
is_rest_span path walk span start size =
    let s = remaining path walk in
    let n = length (rest s 0 0) in
    by_test (ltb 0 (length s))
    (λ e.
    let h = is_between path walk (ltb-true _ _ e) in
    let l = length-rest_whole-le s in
    let here : span.start ≡ walk.front + 0 = omega (arith, start, h.in_order, h.in_range) in
    is_rest_span-at path walk span
    (ap (λ k. take k (drop span.start path)) size
    ∙ take-remaining path walk s span.start 0 n h (omega (arith, l)) here ∙ take-rest s 0)
    (omega (arith, here, size, l, h.size, h.in_order, h.in_range)))
    (λ e.
    let nothing : s ≡ [] = nil_from_length s (omega (arith, ltb-false _ _ e)) in
    let none : rest s 0 0 ≡ [] = ap (λ s. rest s 0 0) nothing ∙ rest-nil 0 0 in
    let zero_long : span.length ≡ 0 = size ∙ ap length none in
    is_rest_span-at path walk span
    (ap (λ k. take k (drop span.start path)) zero_long ∙ sym none)
    (omega (arith, size, ap length none, start, min-le_right walk.front (length path))))
