-- Steps over the first component in the rest of a walk, or over a name at its end.
use Rattle.std.proofs.Common.{◌≡◌, ℕ, ◌+◌, ◌-◌, ◌≤◌, ◌<◌, List, [], ◌∷◌, ◌++◌, length, drop, take}
use Rattle.std.proofs.Common.{eqb}
use Rattle.std.proofs.Common.{false, refl, sym, ap, subst, ◌∙◌, arith, length-drop, length-take-le}
use Rattle.std.proofs.lemmas.Bool.{eqb-false}
use Rattle.unix_path.specs.Parts.{inner_parts, parts, value_bytes, Normal, values}
use Rattle.unix_path.specs.Scan.{is_filler, EndsInPart}
use Rattle.unix_path_c.proofs.lemmas.walks.NameLemmas.{EndsInName}
use Rattle.unix_path_c.specs.Walks.{remaining, value_of_kind}
use Rattle.unix_path_c.specs.declared.walks.Walk.{Walk}
use Rattle.unix_path_c.proofs.lemmas.walks.TakeLastLemmas.{taken_from_back, TakenFromBack}
use Rattle.unix_path_c.proofs.lemmas.walks.TakeFirstLemmas.{taken_from_front, TakenFromFront}
use Rattle.unix_path_c.proofs.lemmas.walks.RemainingLemmas.{is_between, value_of_kind-again}
use Rattle.unix_path.proofs.lemmas.steps.SpanLemmas.{rest-ended}
use Rattle.unix_path.proofs.lemmas.steps.LeadLemmas.{steps_first, IsFirst}

-- s ends where its last component ends; the first component of s has this kind and `size` bytes,
-- and `step` bytes together with the filler after it
pub record StartsWithPart (s : List ℕ) (size step kind : ℕ) : Type 0 where
  pub ends : EndsInPart s
  pub in_range : step ≤ length s
  pub parts_are : parts s ≡ record {
    start = 0;
    end = size;
    value = value_of_kind kind (take size s);
  } ∷ inner_parts step (drop step s)
  pub size_is : size ≡ length (value_bytes (value_of_kind kind (take size s)))
  pub kind_is : kind < 4
  pub not_filler : step < length s → is_filler s step ≡ false

-- if s is equal to bytes that are not empty, s has a byte
pub has_remaining : {s left : List ℕ} → left ≡ s → eqb (length left) 0 ≡ false → 0 < length s
has_remaining same some = subst (λ s. 0 < length s) same (omega (arith, eqb-false _ 0 some))

module _ (path : List ℕ) (walk : Walk) (some : 0 < length (remaining path walk)) where
  -- a step over the first component in the rest of the walk ends within the path
  pub first_fits : {size step kind : ℕ} → StartsWithPart (remaining path walk) size step kind
      → walk.front + step ≤ length path
  first_fits h =
      let b = is_between path walk some in
      omega (arith, b.size, b.in_order, b.in_range, h.in_range)

  -- a step over the first component in the rest of the walk removes this component
  -- (`TakenFromFront`)
  pub takes_first_part : {size step kind : ℕ} → StartsWithPart (remaining path walk) size step kind
      → TakenFromFront path walk (record { front = walk.front + step; back = walk.back })
      (record { start = walk.front; length = size; kind = kind })
  takes_first_part {size} {step} {kind} h =
      let s = remaining path walk in
      let v = value_of_kind kind (take size s) in
      let first : IsFirst s size step v =
      record { in_range = h.in_range; parts_are = h.parts_are; not_filler = h.not_filler } in
      let t = (steps_first s size step v first).takes h.ends in
      let b = is_between path walk some in
      let whole = ap length (rest-ended s h.ends) in
      let behind = ap length t.rest in
      taken_from_front path walk _ _ v (t.value ∙ ap (λ u. v ∷ values u) (sym t.rest)) refl
      h.size_is (value_of_kind-again kind (take size s)) h.kind_is
      (omega (arith, whole, b.size, b.in_order))
      (omega (arith, behind, length-drop step s, h.in_range, b.size, b.in_order))

  -- a name at the end of the rest of the walk starts within the path
  pub last_fits : {before start : ℕ} → EndsInName (remaining path walk) before start
      → walk.front + start ≤ length path
  last_fits h =
      let b = is_between path walk some in
      omega (arith, b.size, b.in_order, b.in_range, h.in_range)

  -- a step over a name at the end of the rest of the walk removes this name (`TakenFromBack`)
  pub takes_last_name : {before start n : ℕ} → EndsInName (remaining path walk) before start
      → n ≡ length (remaining path walk) → TakenFromBack path walk
      (record { front = walk.front; back = walk.front + before })
      (record { start = walk.front + start; length = n - start; kind = 3 })
  takes_last_name {before} {start} {n} h all =
      let s = remaining path walk in
      let v = Normal (drop start s) in
      let b = is_between path walk some in
      let whole = ap length (rest-ended s h.ends) in
      let in_front = ap length h.rest_is in
      taken_from_back path walk _ _ v (h.values_are ∙ ap (λ u. values u ++ v ∷ []) (sym h.rest_is))
      (omega (arith, whole, all, h.in_range)) (omega (arith, length-drop start s, all)) refl
      (omega arith) refl
      (omega (arith, in_front, length-take-le before s (omega (arith, h.in_order, h.in_range))))
