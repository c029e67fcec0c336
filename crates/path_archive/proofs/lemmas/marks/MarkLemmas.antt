-- The marks of one pass over sorted uses: each use's cause, which is its own index if it stays.
use Rattle.std.proofs.Common.{◌≡◌, ◌≢◌, ◌⊎◌, ◌≤◌, ◌<◌, ◌+◌, ℕ, true, false, List, sym, ap, ◌∙◌}
use Rattle.std.proofs.Common.{subst, inl, inr, arith, length, slice_set, Option, Some, None}
use Rattle.std.proofs.Common.{MatchOption, slice_index}
use Rattle.std.proofs.Math.Nat.{eq-or-lt_of_le}
use Rattle.std.proofs.lemmas.List.{get_or-set_same, get_or-set_other}
use Rattle.path_archive.specs.Entries.{Use, components}
use Rattle.path_archive.specs.Marks.{IsFree, Marked, Step, use_in}
use Rattle.path_archive.specs.Marks.Step.{refused, becomes_leaf, stays}
use Rattle.path_archive.specs.Rule.{Clash, AreApart, is_directory}
use Rattle.path_archive.proofs.lemmas.marks.PassLemmas.{Ordered, clash_back, directory_clash}
use Rattle.path_archive.proofs.lemmas.marks.PassLemmas.{clash_first, clash_ends}

-- no use comes before an earlier one
abbrev pub InOrder : List Use → Type 0
InOrder us = (j k : ℕ) → j ≤ k → k < length us → Ordered (use_in us j) (use_in us k)

-- what holds before the use at index i is marked; `leaf` is the index of the last use that stays,
-- isn't a directory, and is the first of its path
pub record PassHolds (us : List Use) (causes : List ℕ) (i : ℕ) (leaf : Option ℕ) : Type 0 where
  pub refused : (k : ℕ) → k < i → slice_index causes k ≢ k
      → (slice_index causes k < k) × Clash (use_in us (slice_index causes k)) (use_in us k)
  pub apart : (j k : ℕ) → j < k → k < i → slice_index causes j ≡ j → slice_index causes k ≡ k
      → AreApart (use_in us j) (use_in us k)
  pub ahead : (k j : ℕ) → k < i → i ≤ j → j < length us → slice_index causes k ≡ k
      → Clash (use_in us k) (use_in us j)
      → MatchOption leaf ⊥ (λ v. Clash (use_in us v) (use_in us j))
  pub leaf_in : MatchOption leaf (Unit {0}) (λ v. (v < i) × (slice_index causes v ≡ v)
      × (is_directory (use_in us v).used_as ≡ false))

-- a use that is free doesn't clash with the leaf
none_clash : (us : List Use) (leaf : Option ℕ) (i : ℕ) → IsFree us leaf i
    → MatchOption leaf ⊥ (λ v. Clash (use_in us v) (use_in us i)) → ⊥
none_clash us None i free h = h
none_clash us (Some v) i free h = free h

-- a use that is free is apart from the uses before it that stay
free_apart : (us : List Use) (causes : List ℕ) (i : ℕ) (leaf : Option ℕ) → InOrder us
    → PassHolds us causes i leaf → i < length us → IsFree us leaf i
    → (k : ℕ) → k < i → slice_index causes k ≡ k → AreApart (use_in us k) (use_in us i)
free_apart us causes i leaf order h i_in free k k_in own =
    let clashes : Clash (use_in us k) (use_in us i) → ⊥ =
    λ c. none_clash us leaf i free (h.ahead k i k_in (omega arith) i_in own c) in (
      clashes,
      λ c. clashes (clash_back (use_in us k) (use_in us i)
          (order k i (omega arith) i_in) c),
    )

-- the causes before index i, when the one at i is set
old_cause : (causes : List ℕ) (i k c : ℕ) → k < i
    → slice_index (slice_set causes i c) k ≡ slice_index causes k
old_cause causes i k c k_in = get_or-set_other causes i k c 0 (λ same. omega arith)

-- the cause at index i, when it is set
new_cause : (causes : List ℕ) (i c : ℕ) → i < length causes → slice_index (slice_set causes i c) i
    ≡ c
new_cause causes i c i_in = get_or-set_same causes i c 0 i_in

-- what is known of the leaf is kept when a later cause is set
leaf_kept : (us : List Use) (causes : List ℕ) (i c : ℕ) (leaf : Option ℕ)
    → MatchOption leaf (Unit {0}) (λ v. (v < i) × (slice_index causes v ≡ v)
    × (is_directory (use_in us v).used_as ≡ false))
    → MatchOption leaf (Unit {0}) (λ v. (v < i + 1) × (slice_index (slice_set causes i c) v ≡ v)
    × (is_directory (use_in us v).used_as ≡ false))
leaf_kept us causes i c None h = tt
leaf_kept us causes i c (Some v) (v_in, own, leaf) =
    (omega arith, old_cause causes i v c v_in ∙ own, leaf)

-- an index below i + 1 is below i, or is i
below_or : (k i : ℕ) → k < i + 1 → (k < i) ⊎ (k ≡ i)
below_or k i h = elim (eq-or-lt_of_le {n = k} {m = i} (omega arith)) [
  | ◌⊎◌.inl same ↦ inr same
  | ◌⊎◌.inr less ↦ inl less
]

-- the use at index i clashes with the leaf, its cause
pub mark_refused : (us : List Use) (causes : List ℕ) (i v : ℕ) → i < length causes
    → PassHolds us causes i (Some v) → Clash (use_in us v) (use_in us i)
    → PassHolds us (slice_set causes i v) (i + 1) (Some v)
mark_refused us causes i v i_in h clash = record {
  refused = λ k k_in other. elim (below_or k i k_in) [
    | ◌⊎◌.inl less ↦
        let same = old_cause causes i k v less in
        let was = h.refused k less (λ own. other (same ∙ own)) in
        subst (λ c. (c < k) × Clash (use_in us c) (use_in us k)) (sym same) was
    | ◌⊎◌.inr at ↦
        let c_is : slice_index (slice_set causes i v) k ≡ v =
        ap (slice_index (slice_set causes i v)) at ∙ new_cause causes i v i_in in
        subst (λ c. (c < k) × Clash (use_in us c) (use_in us k)) (sym c_is) (
          let below = h.leaf_in.0 in omega arith,
          subst (λ x. Clash (use_in us v) (use_in us x)) (sym at) clash,
        )
  ];
  apart = λ j k before k_in j_own k_own. elim (below_or k i k_in) [
    | ◌⊎◌.inl less ↦ h.apart j k before less
        (sym (old_cause causes i j v (omega arith)) ∙ j_own)
        (sym (old_cause causes i k v less) ∙ k_own)
    | ◌⊎◌.inr at ↦
        let c_is : slice_index (slice_set causes i v) k ≡ v =
        ap (slice_index (slice_set causes i v)) at ∙ new_cause causes i v i_in in
        let v_below = h.leaf_in.0 in
        absurd (omega arith)
  ];
  ahead = λ k j k_in i_j j_in own c. elim (below_or k i k_in) [
    | ◌⊎◌.inl less ↦ h.ahead k j less (omega arith) j_in
        (sym (old_cause causes i k v less) ∙ own) c
    | ◌⊎◌.inr at ↦
        let c_is : slice_index (slice_set causes i v) k ≡ v =
        ap (slice_index (slice_set causes i v)) at ∙ new_cause causes i v i_in in
        let v_below = h.leaf_in.0 in
        absurd (omega arith)
  ];
  leaf_in = leaf_kept us causes i v (Some v) h.leaf_in;
}

-- what stays true of refused uses and of apart ones when the use at index i stays
stays_refused : (us : List Use) (causes : List ℕ) (i : ℕ) (leaf : Option ℕ) → i < length causes
    → PassHolds us causes i leaf → (k : ℕ) → k < i + 1 → slice_index (slice_set causes i i) k ≢ k
    → (slice_index (slice_set causes i i) k < k)
    × Clash (use_in us (slice_index (slice_set causes i i) k)) (use_in us k)
stays_refused us causes i leaf i_in h k k_in other = elim (below_or k i k_in) [
  | ◌⊎◌.inl less ↦
      let same = old_cause causes i k i less in
      let was = h.refused k less (λ own. other (same ∙ own)) in
      subst (λ c. (c < k) × Clash (use_in us c) (use_in us k)) (sym same) was
  | ◌⊎◌.inr at ↦ absurd (other (ap (slice_index (slice_set causes i i)) at
      ∙ new_cause causes i i i_in ∙ sym at))
]

-- a use that stays is apart from those that stay before it
stays_apart : (us : List Use) (causes : List ℕ) (i : ℕ) (leaf : Option ℕ) → InOrder us
    → i < length us → PassHolds us causes i leaf → IsFree us leaf i
    → (j k : ℕ) → j < k → k < i + 1 → slice_index (slice_set causes i i) j ≡ j
    → slice_index (slice_set causes i i) k ≡ k → AreApart (use_in us j) (use_in us k)
stays_apart us causes i leaf order i_in h free j k before k_in j_own k_own =
    let j_was : slice_index causes j ≡ j = sym (old_cause causes i j i (omega arith)) ∙ j_own in
    elim (below_or k i k_in) [
      | ◌⊎◌.inl less ↦ h.apart j k before less j_was (sym (old_cause causes i k i less) ∙ k_own)
      | ◌⊎◌.inr at ↦ subst (λ x. AreApart (use_in us j) (use_in us x)) (sym at)
          (free_apart us causes i leaf order h i_in free j (omega arith) j_was)
    ]

-- the use at index i stays, and is the new leaf, since it has another path than the old one
pub mark_leaf : (us : List Use) (causes : List ℕ) (i : ℕ) (leaf : Option ℕ) → InOrder us
    → i < length us → i < length causes → PassHolds us causes i leaf → IsFree us leaf i
    → MatchOption leaf (Unit {0}) (λ v. components (use_in us v).path
    ≡ components (use_in us i).path → ⊥)
    → is_directory (use_in us i).used_as ≡ false
    → PassHolds us (slice_set causes i i) (i + 1) (Some i)
mark_leaf us causes i leaf order i_us i_in h free other is_leaf = record {
  refused = stays_refused us causes i leaf i_in h;
  apart = stays_apart us causes i leaf order i_us h free;
  ahead = λ k j k_in i_j j_in own c. elim (below_or k i k_in) [
    | ◌⊎◌.inl less ↦ absurd (ends leaf h free other k j less (omega arith) j_in
        (sym (old_cause causes i k i less) ∙ own) c)
    | ◌⊎◌.inr at ↦ subst (λ x. Clash (use_in us x) (use_in us j)) at c
  ];
  leaf_in = (omega arith, new_cause causes i i i_in, is_leaf);
}
  where
    ends : (leaf : Option ℕ) → PassHolds us causes i leaf → IsFree us leaf i
        → MatchOption leaf (Unit {0}) (λ v. components (use_in us v).path
        ≡ components (use_in us i).path → ⊥)
        → (k j : ℕ) → k < i → i ≤ j → j < length us → slice_index causes k ≡ k
        → Clash (use_in us k) (use_in us j) → ⊥
    ends None h free other k j k_in i_j j_in own c = h.ahead k j k_in i_j j_in own c
    ends (Some v) h free other k j k_in i_j j_in own c =
        let v_in = h.leaf_in.0 in
        clash_ends (use_in us i) (use_in us v) (use_in us j) (order v i (omega arith) i_us)
        (order i j i_j j_in) other free (h.ahead k j k_in i_j j_in own c)

-- the use at index i stays, and the leaf as well: the use is a directory, or has the leaf's path
pub mark_kept : (us : List Use) (causes : List ℕ) (i : ℕ) (leaf : Option ℕ) → InOrder us
    → i < length us → i < length causes → PassHolds us causes i leaf → IsFree us leaf i
    → (is_directory (use_in us i).used_as ≡ true)
    ⊎ MatchOption leaf ⊥ (λ v. components (use_in us v).path ≡ components (use_in us i).path)
    → PassHolds us (slice_set causes i i) (i + 1) leaf
mark_kept us causes i leaf order i_us i_in h free how = record {
  refused = stays_refused us causes i leaf i_in h;
  apart = stays_apart us causes i leaf order i_us h free;
  ahead = λ k j k_in i_j j_in own c. elim (below_or k i k_in) [
    | ◌⊎◌.inl less ↦ h.ahead k j less (omega arith) j_in
        (sym (old_cause causes i k i less) ∙ own) c
    | ◌⊎◌.inr at ↦ on leaf h free how j (subst (λ x. Clash (use_in us x) (use_in us j)) at c)
  ];
  leaf_in = leaf_kept us causes i i leaf h.leaf_in;
}
  where
    on : (leaf : Option ℕ) → PassHolds us causes i leaf → IsFree us leaf i
        → (is_directory (use_in us i).used_as ≡ true)
        ⊎ MatchOption leaf ⊥ (λ v. components (use_in us v).path ≡ components (use_in us i).path)
        → (j : ℕ) → Clash (use_in us i) (use_in us j)
        → MatchOption leaf ⊥ (λ v. Clash (use_in us v) (use_in us j))
    on leaf h free (◌⊎◌.inl directory) j c =
        absurd (directory_clash (use_in us i) (use_in us j) directory c)
    on None h free (◌⊎◌.inr same) j c = absurd same
    on (Some v) h free (◌⊎◌.inr same) j c =
        let v_in = h.leaf_in.0 in
        clash_first (use_in us i) (use_in us v) (use_in us j) h.leaf_in.2
        (order v i (omega arith) i_us) same free c

-- one step of the pass
pub mark_step : (us : List Use) (causes : List ℕ) (i : ℕ) (leaf next : Option ℕ) (cause : ℕ)
    → InOrder us → i < length us → i < length causes → PassHolds us causes i leaf
    → Step us leaf i cause next → PassHolds us (slice_set causes i cause) (i + 1) next
mark_step us causes i leaf next cause order i_us i_in h (refused {v = v} is clash) =
    subst (λ l. PassHolds us (slice_set causes i v) (i + 1) l) (sym is)
    (mark_refused us causes i v i_in (subst (λ l. PassHolds us causes i l) is h) clash)
mark_step us causes i leaf next cause order i_us i_in h (becomes_leaf free other is_leaf) =
    mark_leaf us causes i leaf order i_us i_in h free other is_leaf
mark_step us causes i leaf next cause order i_us i_in h (stays free how) =
    mark_kept us causes i leaf order i_us i_in h free how

-- nothing is marked at the start
pub pass_starts : (us : List Use) (causes : List ℕ) → PassHolds us causes 0 None
pass_starts us causes = record {
  refused = λ k k_in other. absurd (omega arith);
  apart = λ j k before k_in j_own k_own. absurd (omega arith);
  ahead = λ k j k_in i_j j_in own c. omega arith;
  leaf_in = tt;
}

-- all is marked at the end
pub pass_ends : (us : List Use) (causes : List ℕ) (i : ℕ) (leaf : Option ℕ) → length us ≤ i
    → PassHolds us causes i leaf → Marked us causes
pass_ends us causes i leaf end h = record {
  refused = λ k k_in. h.refused k (omega arith);
  apart = λ j k before k_in. h.apart j k before (omega arith);
}
