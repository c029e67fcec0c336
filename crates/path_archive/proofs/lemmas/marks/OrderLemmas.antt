-- The order of slots, and paths without a leading `.`.
use Rattle.std.proofs.Common.{◌≡◌, ℕ, true, false, List, [], ◌∷◌, ◌++◌, refl, sym, ap, ◌∙◌, subst}
use Rattle.std.proofs.Common.{arith, ◌<◌, ◌≤◌, Ordering, Less, Equal, Greater, suc, zero, length}
use Rattle.std.proofs.Common.{slice_index_or, true≢false, min}
use Rattle.std.specs.Ordering.{is_lt, is_le, ordering_reverse, ordering_then, nat_cmp}
use Rattle.std.specs.List.Sorted.{IsSortedBy}
use Rattle.std.proofs.lemmas.List.Sorted.{sorted_far}
use Rattle.std.proofs.lemmas.Bool.Decides.{nat_tests}
use Rattle.std.specs.Cmp.{IsTotalOrder, IsStrictWeakOrder}
use Rattle.std.proofs.lemmas.List.{length-map}
use Rattle.std.proofs.lemmas.Cmp.{tied_itself, then_total, on_total, nat_cmp_total}
use Rattle.std.proofs.lemmas.List.MinMax.{ranks_by}
use Rattle.unix_path.specs.Order.{values_cmp}
use Rattle.unix_path.specs.OrderLaws.{values_cmp-total}
use Rattle.unix_path.specs.Parts.{Value, RootDir, CurDir, ParentDir, Normal, cur_dir, values, parts}
use Rattle.unix_path.specs.Parts.{leading_part, inner_parts}
use Rattle.unix_path.specs.Prefixes.{IsPrefixOf, stripped_of}
use Rattle.path_runs.specs.JoinLaws.{drop_dot}
use Rattle.path_runs.proofs.lemmas.joins.StripLemmas.{values-stripped_of}
use Rattle.path_archive.specs.Entries.{UsedAsDirectory, components}
use Rattle.path_archive.specs.Slots.{path_at, slot_cmp, slot_lt, use_at, used_as_of}
use Rattle.path_archive.specs.Marks.{use_in}
use Rattle.path_archive.proofs.lemmas.marks.MarkLemmas.{InOrder}
use Rattle.path_archive.proofs.lemmas.marks.PassLemmas.{Ordered, rank}
use Rattle.path_archive.proofs.lemmas.marks.StepLemmas.{uses_at, use_is}
use Rattle.path_archive.specs.declared.slot.Slot.{Slot}

-- the order of slots is total
slot_total : (records : List ℕ) → IsTotalOrder (slot_cmp records)
slot_total records =
    then_total (on_total (λ s. components (path_at records s)) values_cmp-total)
    (then_total (on_total (λ s. s.rank) nat_cmp_total) (on_total (λ s. s.entry) nat_cmp_total))

-- slots can be sorted
pub slots_weak : (records : List ℕ) → IsStrictWeakOrder (slot_lt records)
slots_weak records = ranks_by (slot_total records) (λ s. s)

-- the components of `.`
values-dot : values cur_dir ≡ CurDir ∷ []
unfolding values parts leading_part inner_parts
values-dot = refl

-- what is stripped of `.`
pub dot_stripped : (s : List ℕ) → IsPrefixOf (values cur_dir) (values s)
    → values (stripped_of s cur_dir) ≡ components s
unfolding components
dot_stripped s (more, is) =
    let dotted : CurDir ∷ more ≡ values s = ap (λ v. v ++ more) (sym values-dot) ∙ is in
    values-stripped_of s cur_dir more is ∙ ap drop_dot dotted

-- what doesn't start with `.` has no leading `.`
pub no_dot : (s : List ℕ) → (IsPrefixOf (values cur_dir) (values s) → ⊥) → values s ≡ components s
unfolding components
no_dot s other = undotted (values s) (λ more is. other (more, ap (λ v. v ++ more) values-dot ∙ is))
  where
    undotted : (vs : List Value) → ((more : List Value) → CurDir ∷ more ≡ vs → ⊥)
        → vs ≡ drop_dot vs
    undotted [] h = refl
    undotted (CurDir ∷ vs) h = absurd (h vs refl)
    undotted (RootDir ∷ vs) h = refl
    undotted (ParentDir ∷ vs) h = refl
    undotted (Normal n ∷ vs) h = refl

-- ranks from 5 on are a directory's
directories : (r : ℕ) → 5 ≤ r → used_as_of r ≡ UsedAsDirectory
directories r h = grind (arith, nat_tests)

-- the position of a rank's kind
pub rank_of : (r : ℕ) → rank (used_as_of r) ≡ min r 5
rank_of zero = refl
rank_of (suc zero) = refl
rank_of (suc (suc zero)) = refl
rank_of (suc (suc (suc zero))) = refl
rank_of (suc (suc (suc (suc zero)))) = refl
rank_of (suc (suc (suc (suc (suc r))))) =
    let many : 5 ≤ suc (suc (suc (suc (suc r)))) = omega arith in
    ap rank (directories (suc (suc (suc (suc (suc r))))) many) ∙ (omega arith)

-- a higher rank is a later kind
rank_up : (a b : ℕ) → a ≤ b → rank (used_as_of a) ≤ rank (used_as_of b)
rank_up a b h =
    let first = rank_of a in
    let second = rank_of b in
    let up : min a 5 ≤ min b 5 = omega arith in
    omega arith

-- not less, the other way
not_less_back : (o r : Ordering) → r ≡ ordering_reverse o → is_lt o ≡ false → is_le r ≡ true
not_less_back Less r is h = absurd (true≢false h)
not_less_back Equal r is h = ap is_le is
not_less_back Greater r is h = ap is_le is

-- what is not less by two orders is not less by the first
not_less_then : (o p : Ordering) → is_lt (ordering_then o p) ≡ false → is_lt o ≡ false
not_less_then Less p h = h
not_less_then Equal p h = refl
not_less_then Greater p h = refl

-- a number that is not less is at least as large
not_less_nat : (a b : ℕ) → is_lt (nat_cmp a b) ≡ false → b ≤ a
not_less_nat a b h = grind (arith, nat_tests)

-- a slot that isn't less than an earlier one has a use in order
slots_ordered_pair : (r : List ℕ) (x y : Slot) → slot_lt r y x ≡ false
    → Ordered (use_at r x) (use_at r y)
unfolding use_at
slots_ordered_pair r x y h = record {
  places = not_less_back (values_cmp (components (path_at r y)) (components (path_at r x)))
      (values_cmp (components (path_at r x)) (components (path_at r y)))
      (values_cmp-total.antisymm (components (path_at r x)) (components (path_at r y)))
      (not_less_then _ _ h);
  ranks = λ same. rank_up x.rank y.rank
      (not_less_nat y.rank x.rank (not_less_then _ _ (ranks_then same)));
}
  where
    ranks_then : components (path_at r x) ≡ components (path_at r y)
        → is_lt (ordering_then (nat_cmp y.rank x.rank) (nat_cmp y.entry x.entry)) ≡ false
    ranks_then same =
        let tied : values_cmp (components (path_at r y)) (components (path_at r x)) ≡ Equal =
        subst (λ v. values_cmp v (components (path_at r x)) ≡ Equal) same
        (tied_itself values_cmp-total (components (path_at r x))) in
        ap (λ o. is_lt (ordering_then o
        (ordering_then (nat_cmp y.rank x.rank) (nat_cmp y.entry x.entry)))) (sym tied) ∙ h

-- the uses of sorted slots are in order
pub slots_ordered : (r : List ℕ) (ss : List Slot) → IsSortedBy (slot_lt r) ss
    → InOrder (uses_at r ss)
slots_ordered r ss up j k before k_in =
    let d : Slot = record { start = 0; end = 0; rank = 0; entry = 0; cause = 0 } in
    let k_slot : k < length ss = omega (arith, length-map ss (use_at r)) in
    let far : slot_lt r (slice_index_or ss k d) (slice_index_or ss j d) ≡ false =
    sorted_far (slot_lt r) (slots_weak r) ss up j k d before k_slot in
    subst (λ u. Ordered u (use_in (uses_at r ss) k)) (sym (use_is r ss j d (omega arith)))
    (subst (λ u. Ordered (use_at r (slice_index_or ss j d)) u) (sym (use_is r ss k d k_slot))
    (slots_ordered_pair r (slice_index_or ss j d) (slice_index_or ss k d) far))
