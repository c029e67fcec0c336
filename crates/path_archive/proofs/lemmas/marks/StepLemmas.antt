-- Steps of the pass, from what is known of two slots.
use Rattle.std.proofs.Common.{◌≡◌, ◌<◌, ℕ, Bool, true, false, List, map, length, refl, sym, ap, ◌∙◌}
use Rattle.std.proofs.Common.{subst, inl, inr, Option, Some, None, slice_index_or, []}
use Rattle.std.proofs.lemmas.List.{get_or-map}
use Rattle.path_archive.specs.Entries.{UsedAsOther, Use, use_as, components}
use Rattle.path_archive.specs.Marks.{Step, use_in}
use Rattle.path_archive.specs.Marks.Step.{refused, becomes_leaf, stays}
use Rattle.path_archive.specs.Rule.{Clash, is_directory}
use Rattle.path_archive.specs.Slots.{path_at, use_at, used_as_of}
use Rattle.path_archive.specs.declared.slot.Slot.{Slot}

-- the uses at slots
abbrev pub uses_at : List ℕ → List Slot → List Use
uses_at r ss = map (use_at r) ss

-- the use at an index is the one at the slot
pub use_is : (r : List ℕ) (ss : List Slot) (k : ℕ) (d : Slot) → k < length ss
    → use_in (uses_at r ss) k ≡ use_at r (slice_index_or ss k d)
use_is r ss k d k_in = get_or-map (use_at r) ss k d (use_as UsedAsOther []) k_in

-- what the use at an index is used as
kind_is : (r : List ℕ) (ss : List Slot) (k : ℕ) (d : Slot) (b : Bool) → k < length ss
    → is_directory (used_as_of (slice_index_or ss k d).rank) ≡ b
    → is_directory (use_in (uses_at r ss) k).used_as ≡ b
unfolding use_at
kind_is r ss k d b k_in is = ap (λ u. is_directory u.used_as) (use_is r ss k d k_in) ∙ is

-- the path of the use at an index
path_is : (r : List ℕ) (ss : List Slot) (k : ℕ) (d : Slot) → k < length ss
    → components (use_in (uses_at r ss) k).path ≡ components (path_at r (slice_index_or ss k d))
unfolding use_at
path_is r ss k d k_in = ap (λ u. components u.path) (use_is r ss k d k_in)

-- slots that clash are uses that clash
clash_at : (r : List ℕ) (ss : List Slot) (v i : ℕ) (d e : Slot) → v < length ss → i < length ss
    → Clash (use_at r (slice_index_or ss v d)) (use_at r (slice_index_or ss i e))
    → Clash (use_in (uses_at r ss) v) (use_in (uses_at r ss) i)
clash_at r ss v i d e v_in i_in c =
    subst (λ u. Clash u (use_in (uses_at r ss) i)) (sym (use_is r ss v d v_in))
    (subst (λ u. Clash (use_at r (slice_index_or ss v d)) u) (sym (use_is r ss i e i_in)) c)

-- uses that clash are slots that clash
clash_from : (r : List ℕ) (ss : List Slot) (v i : ℕ) (d e : Slot) → v < length ss → i < length ss
    → Clash (use_in (uses_at r ss) v) (use_in (uses_at r ss) i)
    → Clash (use_at r (slice_index_or ss v d)) (use_at r (slice_index_or ss i e))
clash_from r ss v i d e v_in i_in c =
    subst (λ u. Clash u (use_at r (slice_index_or ss i e))) (use_is r ss v d v_in)
    (subst (λ u. Clash (use_in (uses_at r ss) v) u) (use_is r ss i e i_in) c)

-- there is no leaf yet
pub step_first : (r : List ℕ) (ss : List Slot) (i : ℕ) (d : Slot) (next : Option ℕ)
    → i < length ss
    → (is_directory (used_as_of (slice_index_or ss i d).rank) ≡ true → next ≡ None)
    → (is_directory (used_as_of (slice_index_or ss i d).rank) ≡ false → next ≡ Some i)
    → Step (uses_at r ss) None i i next
step_first r ss i d next i_in directory leaf =
    by (is_directory (used_as_of (slice_index_or ss i d).rank)) refl
  where
    by : (b : Bool) → is_directory (used_as_of (slice_index_or ss i d).rank) ≡ b
        → Step (uses_at r ss) None i i next
    by true is = subst (λ n. Step (uses_at r ss) None i i n) (sym (directory is))
        (stays tt (inl (kind_is r ss i d true i_in is)))
    by false is = subst (λ n. Step (uses_at r ss) None i i n) (sym (leaf is))
        (becomes_leaf tt tt (kind_is r ss i d false i_in is))

-- the use clashes with the leaf
pub step_clash : (r : List ℕ) (ss : List Slot) (v i : ℕ) (d e : Slot) → v < length ss
    → i < length ss → Clash (use_at r (slice_index_or ss v d)) (use_at r (slice_index_or ss i e))
    → Step (uses_at r ss) (Some v) i v (Some v)
step_clash r ss v i d e v_in i_in c = refused refl (clash_at r ss v i d e v_in i_in c)

-- the use has the path of the leaf
pub step_one_path : (r : List ℕ) (ss : List Slot) (v i : ℕ) (d e : Slot) → v < length ss
    → i < length ss
    → (Clash (use_at r (slice_index_or ss v d)) (use_at r (slice_index_or ss i e)) → ⊥)
    → components (path_at r (slice_index_or ss v d))
    ≡ components (path_at r (slice_index_or ss i e))
    → Step (uses_at r ss) (Some v) i i (Some v)
step_one_path r ss v i d e v_in i_in free same =
    stays (λ c. free (clash_from r ss v i d e v_in i_in c))
    (inr (path_is r ss v d v_in ∙ same ∙ sym (path_is r ss i e i_in)))

-- the use has another path than the leaf
pub step_apart : (r : List ℕ) (ss : List Slot) (v i : ℕ) (d e f : Slot) (next : Option ℕ)
    → v < length ss → i < length ss
    → (Clash (use_at r (slice_index_or ss v d)) (use_at r (slice_index_or ss i e)) → ⊥)
    → (components (path_at r (slice_index_or ss v d))
    ≡ components (path_at r (slice_index_or ss i e)) → ⊥)
    → (is_directory (used_as_of (slice_index_or ss i f).rank) ≡ true → next ≡ Some v)
    → (is_directory (used_as_of (slice_index_or ss i f).rank) ≡ false → next ≡ Some i)
    → Step (uses_at r ss) (Some v) i i next
step_apart r ss v i d e f next v_in i_in free other directory leaf =
    by (is_directory (used_as_of (slice_index_or ss i f).rank)) refl
  where
    apart : Clash (use_in (uses_at r ss) v) (use_in (uses_at r ss) i) → ⊥
    apart c = free (clash_from r ss v i d e v_in i_in c)

    by : (b : Bool) → is_directory (used_as_of (slice_index_or ss i f).rank) ≡ b
        → Step (uses_at r ss) (Some v) i i next
    by true is = subst (λ n. Step (uses_at r ss) (Some v) i i n) (sym (directory is))
        (stays apart (inl (kind_is r ss i f true i_in is)))
    by false is = subst (λ n. Step (uses_at r ss) (Some v) i i n) (sym (leaf is))
        (becomes_leaf apart
        (λ same. other (sym (path_is r ss v d v_in) ∙ same ∙ path_is r ss i e i_in))
        (kind_is r ss i f false i_in is))
