-- The list of refusals, while it is collected from marked slots.
use Rattle.std.proofs.Common.{◌≡◌, ◌⊎◌, ◌≤◌, ◌<◌, ◌+◌, ℕ, List, [], ◌∷◌, ◌++◌, map, length, refl}
use Rattle.std.proofs.Common.{sym, ap, ◌∙◌, subst, inl, inr, arith, slice_index_or, slice_index}
use Rattle.std.proofs.Common.{Option, Some, None, IfSome, option_to_list}
use Rattle.std.specs.Prelude.{All, Contains}
use Rattle.std.proofs.Math.Nat.{eq-or-lt_of_le}
use Rattle.std.proofs.lemmas.List.{append-nil, get_or-map, length-map, map_push}
use Rattle.std.proofs.lemmas.List.Elements.{All-push, Contains-append_left, Contains-push}
use Rattle.path_archive.specs.Entries.{Use}
use Rattle.path_archive.specs.Marks.{Marked, use_in}
use Rattle.path_archive.specs.Refusals.{AreSettled, Decides, IsFrom, IsRefused, IsSettled}
use Rattle.path_archive.specs.Refusals.{IsTrueOf, Settles, Stays, numbered_at}
use Rattle.path_archive.specs.Rule.{AreApart}
use Rattle.path_archive.specs.Slots.{use_at}
use Rattle.path_archive.specs.declared.level.Level.{Level}
use Rattle.path_archive.specs.declared.refusal.Refusal.{Refusal}
use Rattle.path_archive.specs.declared.slot.Slot.{Slot}
use Rattle.path_archive.proofs.lemmas.marks.StepLemmas.{uses_at, use_is}
use Rattle.path_archive.proofs.lemmas.marks.UnmarkedLemmas.{causes_of}

-- what holds of the refusals of the uses before index k
pub record Collected (level : Level) (r : List ℕ) (ss : List Slot) (list : List Refusal) (k : ℕ)
    : Type 0 where
  pub each : All (IsTrueOf level (map (numbered_at r) ss)) list
  pub done : (j : ℕ) (d : Slot) → j < k
      → IsRefused list (slice_index_or ss j d).entry ⊎ Stays level r j (slice_index_or ss j d)

-- nothing is collected at first
pub collect_starts : (level : Level) (r : List ℕ) (ss : List Slot) → Collected level r ss [] 0
collect_starts level r ss = record {
  each = λ k d k_in. absurd (omega arith);
  done = λ j d j_in. absurd (omega arith);
}

-- an entry that is refused stays so
refused_more : (list : List Refusal) (x : Refusal) (n : ℕ) → IsRefused list n
    → IsRefused (list ++ x ∷ []) n
refused_more list x n c =
    subst (λ ns. Contains ns n) (sym (map_push (λ (y : Refusal). y.entry) list x))
    (Contains-append_left (map (λ (y : Refusal). y.entry) list) (x.entry ∷ []) n c)

-- the entry of the last refusal is refused
refused_last : (list : List Refusal) (x : Refusal) → IsRefused (list ++ x ∷ []) x.entry
refused_last list x =
    subst (λ ns. Contains ns x.entry) (sym (map_push (λ (y : Refusal). y.entry) list x))
    (Contains-push (map (λ (y : Refusal). y.entry) list) x.entry)

-- the use is refused
pub collect_push : (level : Level) (r : List ℕ) (ss : List Slot) (list : List Refusal) (k : ℕ)
    (x : Refusal)
    → Collected level r ss list k → IsTrueOf level (map (numbered_at r) ss) x
    → ((d : Slot) → x.entry ≡ (slice_index_or ss k d).entry)
    → Collected level r ss (list ++ x ∷ []) (k + 1)
collect_push level r ss list k x h is_true named = record {
  each = All-push (IsTrueOf level (map (numbered_at r) ss)) list x h.each is_true;
  done = λ j d j_in. elim (eq-or-lt_of_le {n = j} {m = k} (omega arith)) [
    | ◌⊎◌.inl at ↦ inl (subst (IsRefused (list ++ x ∷ []))
        (named d ∙ ap (λ i. (slice_index_or ss i d).entry) (sym at)) (refused_last list x))
    | ◌⊎◌.inr less ↦ elim (h.done j d less) [
      | ◌⊎◌.inl was ↦ inl (refused_more list x (slice_index_or ss j d).entry was)
      | ◌⊎◌.inr stays ↦ inr stays
    ]
  ];
}

-- the use stays
pub collect_keep : (level : Level) (r : List ℕ) (ss : List Slot) (list : List Refusal) (k : ℕ)
    → Collected level r ss list k → ((d : Slot) → Stays level r k (slice_index_or ss k d))
    → Collected level r ss list (k + 1)
collect_keep level r ss list k h stays = record {
  each = h.each;
  done = λ j d j_in. elim (eq-or-lt_of_le {n = j} {m = k} (omega arith)) [
    | ◌⊎◌.inl at ↦ inr (subst (λ i. Stays level r i (slice_index_or ss i d)) (sym at) (stays d))
    | ◌⊎◌.inr less ↦ h.done j d less
  ];
}

-- the refusals after one more slot
pub collect_step : (level : Level) (r : List ℕ) (ss : List Slot) (list now : List Refusal) (k : ℕ)
    (x : Option Refusal) → Collected level r ss list k
    → IfSome x (IsTrueOf level (map (numbered_at r) ss))
    → IfSome x (λ y. (d : Slot) → y.entry ≡ (slice_index_or ss k d).entry)
    → (x ≡ None → (d : Slot) → Stays level r k (slice_index_or ss k d))
    → now ≡ list ++ option_to_list x → Collected level r ss now (k + 1)
collect_step level r ss list now k None h is_true named stays is =
    subst (λ l. Collected level r ss l (k + 1)) (sym (is ∙ append-nil list))
    (collect_keep level r ss list k h (stays refl))
collect_step level r ss list now k (Some x) h is_true named stays is =
    subst (λ l. Collected level r ss l (k + 1)) (sym is)
    (collect_push level r ss list k x h is_true named)

-- the uses at two slots that stay are apart
stay_apart : (r : List ℕ) (ss : List Slot) (i j : ℕ) (d : Slot)
    → Marked (uses_at r ss) (causes_of ss)
    → i < j → j < length ss → (slice_index_or ss i d).cause ≡ i → (slice_index_or ss j d).cause ≡ j
    → AreApart (use_at r (slice_index_or ss i d)) (use_at r (slice_index_or ss j d))
stay_apart r ss i j d marked before j_in i_own j_own =
    let size = length-map ss (use_at r) in
    let i_is : slice_index (causes_of ss) i ≡ i =
    get_or-map (λ (s : Slot). s.cause) ss i d 0 (omega arith) ∙ i_own in
    let j_is : slice_index (causes_of ss) j ≡ j =
    get_or-map (λ (s : Slot). s.cause) ss j d 0 j_in ∙ j_own in
    subst (λ u. AreApart u (use_at r (slice_index_or ss j d))) (use_is r ss i d (omega arith))
    (subst (λ u. AreApart (use_in (uses_at r ss) i) u) (use_is r ss j d j_in)
    (marked.apart i j before (omega arith) i_is j_is))

-- what is found of each slot is found of all uses
pub settles : (level : Level) (r : List ℕ) (ss : List Slot) (P : ℕ → Type 0)
    → Marked (uses_at r ss) (causes_of ss)
    → ((j : ℕ) (d : Slot) → j < length ss
    → P (slice_index_or ss j d).entry ⊎ Stays level r j (slice_index_or ss j d))
    → Settles level P (map (numbered_at r) ss)
settles level r ss P marked done = record {
  allowed = λ j z j_in.
      (let size = length-map ss (numbered_at r) in
      subst (IsSettled level P) (sym (get_or-map (numbered_at r) ss j slot z (omega arith)))
      (elim (done j slot (omega arith)) [
        | ◌⊎◌.inl refused ↦ inl refused
        | ◌⊎◌.inr stays ↦ inr stays.1
      ]));
  apart = λ i j z before j_in.
      (let size = length-map ss (numbered_at r) in
      subst (λ (a : ℕ × Use). AreSettled P a (slice_index_or (map (numbered_at r) ss) j z))
      (sym (get_or-map (numbered_at r) ss i slot z (omega arith)))
      (subst (λ (b : ℕ × Use). AreSettled P (numbered_at r (slice_index_or ss i slot)) b)
      (sym (get_or-map (numbered_at r) ss j slot z (omega arith)))
      (both i j before (omega arith) (done i slot (omega arith)) (done j slot (omega arith)))));
}
  where
    slot : Slot
    slot = record { start = 0; end = 0; rank = 0; entry = 0; cause = 0 }

    both : (i j : ℕ) → i < j → j < length ss
        → P (slice_index_or ss i slot).entry ⊎ Stays level r i (slice_index_or ss i slot)
        → P (slice_index_or ss j slot).entry ⊎ Stays level r j (slice_index_or ss j slot)
        → AreSettled P (numbered_at r (slice_index_or ss i slot))
        (numbered_at r (slice_index_or ss j slot))
    both i j before j_in (◌⊎◌.inl refused) other = inl refused
    both i j before j_in (◌⊎◌.inr stays) (◌⊎◌.inl refused) = inr (inl refused)
    both i j before j_in (◌⊎◌.inr stays) (◌⊎◌.inr more) =
        inr (inr (stay_apart r ss i j slot marked before j_in stays.0 more.0))

-- all refusals are collected
pub collected : (level : Level) (r : List ℕ) (ss : List Slot) (list : List Refusal) (k : ℕ)
    → length ss ≤ k → Marked (uses_at r ss) (causes_of ss) → Collected level r ss list k
    → Decides level (map (numbered_at r) ss) list
collected level r ss list k end marked h = record {
  each = h.each;
  others = settles level r ss (IsRefused list) marked (λ j d j_in. h.done j d (omega arith));
}

-- what holds of the first refusal among the uses before index k
pub record FirstHolds (level : Level) (r : List ℕ) (ss : List Slot) (first : Option Refusal) (k : ℕ)
    : Type 0 where
  pub some : IfSome first (IsTrueOf level (map (numbered_at r) ss))
  pub done : (j : ℕ) (d : Slot) → j < k
      → IsFrom first (slice_index_or ss j d).entry ⊎ Stays level r j (slice_index_or ss j d)

-- there is none at first
pub first_starts : (level : Level) (r : List ℕ) (ss : List Slot) → FirstHolds level r ss None 0
first_starts level r ss = record { some = tt; done = λ j d j_in. absurd (omega arith) }

-- the first refusal after one more slot
pub first_step : (level : Level) (r : List ℕ) (ss : List Slot) (first next now : Option Refusal)
    (k : ℕ) → FirstHolds level r ss first k
    → IfSome next (IsTrueOf level (map (numbered_at r) ss))
    → IfSome next (λ y. (d : Slot) → y.entry ≡ (slice_index_or ss k d).entry)
    → (next ≡ None → (d : Slot) → Stays level r k (slice_index_or ss k d))
    → (now ≡ first) ⊎ (now ≡ next) → ((n : ℕ) → IsFrom first n → IsFrom now n)
    → ((n : ℕ) → IsFrom next n → IsFrom now n) → FirstHolds level r ss now (k + 1)
first_step level r ss first next now k h is_true named stays one of_first of_next = record {
  some = elim one [
    | ◌⊎◌.inl is ↦ subst (λ o. IfSome o (IsTrueOf level (map (numbered_at r) ss))) (sym is) h.some
    | ◌⊎◌.inr is ↦ subst (λ o. IfSome o (IsTrueOf level (map (numbered_at r) ss))) (sym is) is_true
  ];
  done = λ j d j_in. elim (eq-or-lt_of_le {n = j} {m = k} (omega arith)) [
    | ◌⊎◌.inl at ↦ subst (λ i. IsFrom now (slice_index_or ss i d).entry
        ⊎ Stays level r i (slice_index_or ss i d)) (sym at)
        (last next named stays of_next d)
    | ◌⊎◌.inr less ↦ elim (h.done j d less) [
      | ◌⊎◌.inl was ↦ inl (of_first (slice_index_or ss j d).entry was)
      | ◌⊎◌.inr kept ↦ inr kept
    ]
  ];
}
  where
    last : (next : Option Refusal)
        → IfSome next (λ y. (d : Slot) → y.entry ≡ (slice_index_or ss k d).entry)
        → (next ≡ None → (d : Slot) → Stays level r k (slice_index_or ss k d))
        → ((n : ℕ) → IsFrom next n → IsFrom now n) → (d : Slot)
        → IsFrom now (slice_index_or ss k d).entry ⊎ Stays level r k (slice_index_or ss k d)
    last None named stays of_next d = inr (stays refl d)
    last (Some y) named stays of_next d =
        inl (of_next (slice_index_or ss k d).entry (let is = named d in omega arith))
