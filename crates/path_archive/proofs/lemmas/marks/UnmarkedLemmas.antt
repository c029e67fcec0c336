-- Marks change neither uses nor their order.
use Rattle.std.proofs.Common.{◌≡◌, ◌<◌, ℕ, Option, List, map, length, refl, sym, ap, ◌∙◌, subst}
use Rattle.std.proofs.Common.{arith, slice_index_or, slice_set, ◌+◌}
use Rattle.std.specs.List.Sorted.{IsSortedBy}
use Rattle.std.proofs.lemmas.List.{length-map, map-set}
use Rattle.std.proofs.lemmas.Simd.{map-map}
use Rattle.std.proofs.Math.Seq.{map-set_same}
use Rattle.path_archive.specs.Marks.{Step, unmarked}
use Rattle.path_archive.specs.Slots.{slot_lt, use_at}
use Rattle.path_archive.specs.declared.slot.Slot.{Slot}
use Rattle.path_archive.proofs.lemmas.marks.MarkLemmas.{InOrder, PassHolds, mark_step}
use Rattle.path_archive.proofs.lemmas.marks.OrderLemmas.{slots_ordered}
use Rattle.path_archive.proofs.lemmas.marks.StepLemmas.{uses_at}

-- the causes of slots
abbrev pub causes_of : List Slot → List ℕ
causes_of ss = map (λ s. s.cause) ss

-- slots that differ only in their marks have the same uses
pub same_uses : (r : List ℕ) (ss ts : List Slot) → map unmarked ss ≡ map unmarked ts
    → uses_at r ss ≡ uses_at r ts
unfolding use_at
same_uses r ss ts same =
    sym (map-map (use_at r) unmarked ss) ∙ ap (map (use_at r)) same
    ∙ map-map (use_at r) unmarked ts

-- a mark changes nothing but itself
pub mark_same : (ss : List Slot) (i : ℕ) (d : Slot) (cause : ℕ)
    → map unmarked (slice_set ss i (record (slice_index_or ss i d) { cause = cause }))
    ≡ map unmarked ss
mark_same ss i d cause =
    map-set_same unmarked ss i (record (slice_index_or ss i d) { cause = cause }) d refl

-- one more slot is marked
pub marks_next : (r : List ℕ) (old ss : List Slot) (i : ℕ) (d : Slot) (cause : ℕ)
    (leaf next : Option ℕ) → IsSortedBy (slot_lt r) old → map unmarked ss ≡ map unmarked old
    → i < length ss → PassHolds (uses_at r ss) (causes_of ss) i leaf
    → Step (uses_at r ss) leaf i cause next
    → PassHolds (uses_at r (slice_set ss i (record (slice_index_or ss i d) { cause = cause })))
    (causes_of (slice_set ss i (record (slice_index_or ss i d) { cause = cause }))) (i + 1) next
marks_next r old ss i d cause leaf next up same i_in h step =
    let slot : Slot = record (slice_index_or ss i d) { cause = cause } in
    let order : InOrder (uses_at r ss) =
    subst InOrder (sym (same_uses r ss old same)) (slots_ordered r old up) in
    let i_us : i < length (uses_at r ss) = omega (arith, length-map ss (use_at r)) in
    let i_causes : i < length (causes_of ss) =
    omega (arith, length-map ss (λ (s : Slot). s.cause)) in
    subst (λ us. PassHolds us (causes_of (slice_set ss i slot)) (i + 1) next)
    (sym (same_uses r (slice_set ss i slot) ss (mark_same ss i d cause)))
    (subst (λ causes. PassHolds (uses_at r ss) causes (i + 1) next)
    (sym (map-set (λ (s : Slot). s.cause) ss i slot))
    (mark_step (uses_at r ss) (causes_of ss) i leaf next cause order i_us i_causes h step))
