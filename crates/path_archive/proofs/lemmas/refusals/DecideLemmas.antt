-- The refusals decide whether entries are accepted.
use Rattle.std.proofs.Common.{◌≡◌, ◌⊎◌, ◌↔◌, ◌<◌, ◌≤◌, ℕ, true, List, [], ◌∷◌, ◌++◌, map, length}
use Rattle.std.proofs.Common.{refl, sym, ap, ◌∙◌, subst, inl, inr, arith, slice_index_or, IfSome}
use Rattle.std.proofs.Common.{Option, Some, None, IsSomeAnd, take, drop, ◌+◌}
use Rattle.std.specs.Prelude.{All, AllPairs, Contains}
use Rattle.std.specs.List.Sorted.{IsPermutation}
use Rattle.std.proofs.lemmas.List.{get_or_append_left, get_or-map, get_or_default, length-append}
use Rattle.std.proofs.lemmas.List.{length-map, length-take, take-append-drop}
use Rattle.std.proofs.lemmas.List.Elements.{All-contains, All-map, All-weaker}
use Rattle.std.proofs.lemmas.List.Sorted.{All-permutation, Contains-permutation, IsPermutation-map}
use Rattle.std.proofs.lemmas.List.Sorted.{IsPermutation-sym}
use Rattle.std.proofs.lemmas.Simd.{map-map}
use Rattle.path_archive.specs.Entries.{EntryValue, SymlinkEntry, Use, all_uses, link_use}
use Rattle.path_archive.specs.Levels.{asks_closed}
use Rattle.path_archive.specs.Marks.{unmarked}
use Rattle.path_archive.specs.Records.{IsSplit, OnEntries}
use Rattle.path_archive.specs.Refusals.{AreSettled, AreTwo, ClashesFor, Decides, ForbiddenFor}
use Rattle.path_archive.specs.Refusals.{IsFirst, IsFrom, IsRefused, IsSettled, IsTrueOf, Settles}
use Rattle.path_archive.specs.Refusals.{numbered_at, numbered_from}
use Rattle.path_archive.specs.Refusals.ClashesFor.{below, target, twice}
use Rattle.path_archive.specs.Refusals.ForbiddenFor.{name, kind, out}
use Rattle.path_archive.specs.Refusals.IsTrueOf.{forbidden, clashes}
use Rattle.path_archive.specs.Rule.{AcceptedAt, AreApart, Clash, Closed, IsAllowed, IsAllowedAt}
use Rattle.path_archive.specs.Slots.{use_at}
use Rattle.path_archive.specs.declared.level.Level.{Level}
use Rattle.path_archive.specs.declared.refusal.Reason.{Reason}
use Rattle.path_archive.specs.declared.refusal.Refusal.{Refusal}
use Rattle.path_archive.specs.declared.slot.Slot.{Slot}
use Rattle.path_archive.proofs.lemmas.laws.RuleLemmas.{entry_use, own_listed}
use Rattle.path_archive.proofs.lemmas.records.SplitLemmas.{split_uses}
use Rattle.path_archive.proofs.lemmas.refusals.NumberLemmas.{link_inside, numbered_append}
use Rattle.path_archive.proofs.lemmas.refusals.NumberLemmas.{numbered_two, numbers_high}
use Rattle.path_archive.proofs.lemmas.refusals.NumberLemmas.{uses_numbered}
use Rattle.path_archive.proofs.lemmas.refusals.PermuteLemmas.{Spread, permuted_pairs, same_or}
use Rattle.path_archive.proofs.lemmas.refusals.PermuteLemmas.{spread_pairs}

-- refusals that are true of uses are true of them in another order
true_permuted : (level : Level) (us vs : List (ℕ × Use)) → IsPermutation us vs → (r : Refusal)
    → IsTrueOf level us r → IsTrueOf level vs r
true_permuted level us vs moved r (forbidden c own why) =
    forbidden (Contains-permutation us vs _ moved c) own why
true_permuted level us vs moved r (clashes c d two why) =
    clashes (Contains-permutation us vs _ moved c) (Contains-permutation us vs _ moved d) two why

-- uses are apart in either order
apart_back : (u v : Use) → AreApart u v → AreApart v u
apart_back u v (there, back) = (back, there)

-- uses are settled in either order
settled_back : (P : ℕ → Type 0) (a b : ℕ × Use) → AreSettled P a b → AreSettled P b a
settled_back P a b (◌⊎◌.inl h) = inr (inl h)
settled_back P a b (◌⊎◌.inr (◌⊎◌.inl h)) = inl h
settled_back P a b (◌⊎◌.inr (◌⊎◌.inr h)) = inr (inr (apart_back a.1 b.1 h))

-- what is settled for uses is settled for them in another order
settles_permuted : (level : Level) (P : ℕ → Type 0) (us vs : List (ℕ × Use)) → IsPermutation us vs
    → Settles level P us → Settles level P vs
settles_permuted level P us vs moved h = record {
  allowed = All-permutation (IsSettled level P) us vs moved h.allowed;
  apart = permuted_pairs (AreSettled P) (settled_back P) us vs moved h.apart;
}

-- marks do not change the uses
same_numbered : (r : List ℕ) (ss ts : List Slot) → map unmarked ss ≡ map unmarked ts
    → map (numbered_at r) ss ≡ map (numbered_at r) ts
unfolding use_at
same_numbered r ss ts same =
    sym (map-map (numbered_at r) unmarked ss) ∙ ap (map (numbered_at r)) same
    ∙ map-map (numbered_at r) unmarked ts

-- uses are two in either order
two_back : (a b : ℕ × Use) → AreTwo a b → AreTwo b a
two_back a b h same is = h (sym same) (sym is)

-- the uses at marked slots are those of the entries, in another order
marked_uses : (r : List ℕ) (old sorted ss : List Slot) (s : IsSplit r (length old) old)
    → IsPermutation old sorted → map unmarked ss ≡ map unmarked sorted
    → IsPermutation (numbered_from 0 s.entries) (map (numbered_at r) ss)
marked_uses r old sorted ss s moved same =
    subst (λ us. IsPermutation us (map (numbered_at r) ss)) (split_uses r old s)
    (subst (IsPermutation (map (numbered_at r) old)) (sym (same_numbered r ss sorted same))
    (IsPermutation-map (numbered_at r) old sorted moved))

-- the uses at the marked slots of entries are two each
pub marked_two : (r : List ℕ) (old sorted ss : List Slot) → IsSplit r (length old) old
    → IsPermutation old sorted → map unmarked ss ≡ map unmarked sorted
    → AllPairs AreTwo (map (numbered_at r) ss)
marked_two r old sorted ss s moved same =
    permuted_pairs AreTwo two_back (numbered_from 0 s.entries) (map (numbered_at r) ss)
    (marked_uses r old sorted ss s moved same) (numbered_two 0 s.entries)

-- what is settled for marked slots is settled for the entries
settled : (level : Level) (P : ℕ → Type 0) (r : List ℕ) (old sorted ss : List Slot)
    (s : IsSplit r (length old) old) → IsPermutation old sorted
    → map unmarked ss ≡ map unmarked sorted → Settles level P (map (numbered_at r) ss)
    → Settles level P (numbered_from 0 s.entries)
settled level P r old sorted ss s moved same h =
    settles_permuted level P (map (numbered_at r) ss) (numbered_from 0 s.entries)
    (IsPermutation-sym (numbered_from 0 s.entries) (map (numbered_at r) ss)
    (marked_uses r old sorted ss s moved same)) h

-- a refusal that is true of marked slots is true of the entries
is_true : (level : Level) (r : List ℕ) (old sorted ss : List Slot) (s : IsSplit r (length old) old)
    → IsPermutation old sorted → map unmarked ss ≡ map unmarked sorted → (x : Refusal)
    → IsTrueOf level (map (numbered_at r) ss) x → IsTrueOf level (numbered_from 0 s.entries) x
is_true level r old sorted ss s moved same x h =
    true_permuted level (map (numbered_at r) ss) (numbered_from 0 s.entries)
    (IsPermutation-sym (numbered_from 0 s.entries) (map (numbered_at r) ss)
    (marked_uses r old sorted ss s moved same)) x h

-- what is decided for marked slots is decided for the entries
decided : (level : Level) (r : List ℕ) (old sorted ss : List Slot) (list : List Refusal)
    (s : IsSplit r (length old) old) → IsPermutation old sorted
    → map unmarked ss ≡ map unmarked sorted → Decides level (map (numbered_at r) ss) list
    → Decides level (numbered_from 0 s.entries) list
decided level r old sorted ss list s moved same h = record {
  each = All-weaker (IsTrueOf level (map (numbered_at r) ss))
      (IsTrueOf level (numbered_from 0 s.entries))
      (λ x it. is_true level r old sorted ss s moved same x it) list h.each;
  others = settled level (IsRefused list) r old sorted ss s moved same h.others;
}

-- what holds of the entries that were split
pub on_split : (P : List EntryValue → Type 0) (r : List ℕ) (count : ℕ) (slots : List Slot)
    (s : IsSplit r count slots) → P s.entries → OnEntries r P
on_split P r count slots s h = subst (λ o. IfSome o P) (sym s.read) h

-- the refusals of marked slots are those of the entries
pub decided_entries : (level : Level) (r : List ℕ) (old sorted ss : List Slot)
    (list : List Refusal) → IsSplit r (length old) old → IsPermutation old sorted
    → map unmarked ss ≡ map unmarked sorted → Decides level (map (numbered_at r) ss) list
    → OnEntries r (λ entries. Decides level (numbered_from 0 entries) list)
decided_entries level r old sorted ss list s moved same h =
    on_split (λ entries. Decides level (numbered_from 0 entries) list) r (length old) old s
    (decided level r old sorted ss list s moved same h)

-- a use without its number
abbrev bare : ℕ × Use → Use
bare a = a.1

-- the symbolic links of entries whose uses are allowed do not lead out
closed_entries : (level : Level) (entries : List EntryValue)
    → All (IsAllowedAt level) (all_uses entries) → asks_closed level ≡ true → Closed entries
closed_entries level entries allowed asked = record {
  inside = λ p t c. (All-contains (IsAllowedAt level) (all_uses entries) (link_use p t) allowed
      (entry_use entries (SymlinkEntry p t) (link_use p t) c
      (own_listed (SymlinkEntry p t)))).closed asked refl;
}

-- entries that are settled, and none of which is left out, are accepted
accepts : (level : Level) (P : ℕ → Type 0) (n : ℕ) (entries : List EntryValue)
    → Settles level P (numbered_from n entries)
    → All (λ a. P a.0 → ⊥) (numbered_from n entries) → AcceptedAt level entries
accepts level P n entries h none = record {
  accepted = record {
    allowed = All-weaker (IsAllowedAt level) IsAllowed (λ u it. it.allowed) (all_uses entries)
        allowed;
    apart = subst (AllPairs AreApart) (uses_numbered n entries) pairs;
  };
  closed = closed_entries level entries allowed;
}
  where
    us : List (ℕ × Use)
    us = numbered_from n entries

    on_own : (a : ℕ × Use) → (P a.0 → ⊥) → IsSettled level P a → IsAllowedAt level (bare a)
    on_own a free (◌⊎◌.inl named) = absurd (free named)
    on_own a free (◌⊎◌.inr is) = is

    on_both : (a b : ℕ × Use) → (P a.0 → ⊥) → (P b.0 → ⊥) → AreSettled P a b
        → AreApart (bare a) (bare b)
    on_both a b free other (◌⊎◌.inl named) = absurd (free named)
    on_both a b free other (◌⊎◌.inr (◌⊎◌.inl named)) = absurd (other named)
    on_both a b free other (◌⊎◌.inr (◌⊎◌.inr is)) = is

    allowed : All (IsAllowedAt level) (all_uses entries)
    allowed = subst (All (IsAllowedAt level)) (uses_numbered n entries)
        (All-map (IsAllowedAt level) bare (numbered_from n entries) (λ k d k_in.
        on_own (slice_index_or (numbered_from n entries) k d) (none k d k_in)
        (h.allowed k d k_in)))

    pairs : AllPairs AreApart (map bare (numbered_from n entries))
    pairs i j d before j_in =
        let us : List (ℕ × Use) = numbered_from n entries in
        let e : ℕ × Use = (0, d) in
        let size = length-map us bare in
        subst (λ u. AreApart u (slice_index_or (map bare us) j d))
        (sym (get_or-map bare us i e d (omega arith)))
        (subst (λ v. AreApart (bare (slice_index_or us i e)) v)
        (sym (get_or-map bare us j e d (omega arith)))
        (on_both (slice_index_or us i e) (slice_index_or us j e)
        (none i e (omega arith)) (none j e (omega arith)) (h.apart i j e before (omega arith))))

-- what is settled for uses is settled for the first of them
settles_first : (level : Level) (P : ℕ → Type 0) (us vs : List (ℕ × Use))
    → Settles level P (us ++ vs) → Settles level P us
settles_first level P us vs h =
    let size = length-append us vs in record {
      allowed = λ k d k_in. subst (IsSettled level P) (get_or_append_left us vs d k k_in)
          (h.allowed k d (omega arith));
      apart = λ i j d before j_in.
          subst (λ a. AreSettled P a (slice_index_or us j d))
          (get_or_append_left us vs d i (omega arith))
          (subst (AreSettled P (slice_index_or (us ++ vs) i d))
          (get_or_append_left us vs d j j_in) (h.apart i j d before (omega arith)));
    }

-- the entries before the first of which P holds are accepted
accepts_before : (level : Level) (entries : List EntryValue) (n : ℕ)
    → Settles level (λ k. n ≤ k) (numbered_from 0 entries)
    → AcceptedAt level (take n entries)
accepts_before level entries n h =
    let parts : numbered_from 0 entries ≡ numbered_from 0 (take n entries)
    ++ numbered_from (0 + length (take n entries)) (drop n entries) =
    ap (numbered_from 0) (sym (take-append-drop n entries))
    ∙ numbered_append 0 (take n entries) (drop n entries) in
    let low = length-take n entries in
    accepts level (λ k. n ≤ k) 0 (take n entries)
    (settles_first level (λ k. n ≤ k) (numbered_from 0 (take n entries))
    (numbered_from (0 + length (take n entries)) (drop n entries))
    (subst (Settles level (λ k. n ≤ k)) parts h))
    (All-weaker (λ (a : ℕ × Use). a.0 < 0 + length (take n entries)) (λ a. n ≤ a.0 → ⊥)
    (λ a below from. omega arith) (numbered_from 0 (take n entries))
    (numbers_high 0 (take n entries)))

-- what clashes for a reason clashes
clash_of : (u v : Use) (reason : Reason) → ClashesFor u v reason → Clash u v
clash_of u v _ (below h) = inl h
clash_of u v _ (target h t) = inr h
clash_of u v _ (twice h t) = inr h

-- an allowed use is not forbidden
not_forbidden : (level : Level) (u : Use) (reason : Reason) → IsAllowedAt level u
    → ForbiddenFor level u reason → ⊥
not_forbidden level u _ h (name other) = other h.allowed.named
not_forbidden level u _ h (kind is) = h.allowed.known is
not_forbidden level u _ h (out other) = other h.closed

-- a numbered use among others, without its number
bare_at : (us : List (ℕ × Use)) (a : ℕ × Use) (k : ℕ) (d : Use) → k < length us
    → slice_index_or us k a ≡ a → slice_index_or (map bare us) k d ≡ bare a
bare_at us a k d k_in is = get_or-map bare us k a d k_in ∙ ap bare is

-- a use of accepted entries is allowed
uses_allowed : (level : Level) (entries : List EntryValue) → AcceptedAt level entries
    → All (IsAllowedAt level) (all_uses entries)
uses_allowed level entries ok = λ k d k_in. record {
  allowed = ok.accepted.allowed k d k_in;
  closed = λ asked. link_inside entries (ok.closed asked) (slice_index_or (all_uses entries) k d) (
    k,
    k_in,
    get_or_default (all_uses entries) k
        (slice_index_or (all_uses entries) k d) d k_in,
  );
}

-- no refusal of accepted entries is true
pub no_refusal : (level : Level) (entries : List EntryValue) → AcceptedAt level entries
    → (r : Refusal) → IsTrueOf level (numbered_from 0 entries) r → ⊥
no_refusal level entries ok r (forbidden {u = u} (k, k_in, is) own why) =
    let us : List (ℕ × Use) = numbered_from 0 entries in
    let size = length-map us bare in
    let listed : Contains (map bare us) u =
    (k, omega arith, bare_at us (r.entry, u) k u k_in is) in
    not_forbidden level u r.reason
    (All-contains (IsAllowedAt level) (all_uses entries) u (uses_allowed level entries ok)
    (subst (λ l. Contains l u) (uses_numbered 0 entries) listed)) why
no_refusal level entries ok r (clashes {u = u} {v = v} (i, i_in, i_is) (j, j_in, j_is) two why) =
    let us : List (ℕ × Use) = numbered_from 0 entries in
    let size = length-map us bare in
    elim (same_or i j) [
      | ◌⊎◌.inl same ↦
          let one : (r.cause, u) ≡ (r.entry, v) =
          sym i_is ∙ get_or_default us i (r.cause, u) (r.entry, v) i_in
          ∙ ap (λ k. slice_index_or us k (r.entry, v)) same ∙ j_is in
          two (ap (λ (a : ℕ × Use). a.0) one) (ap (λ (a : ℕ × Use). a.1) one)
      | ◌⊎◌.inr other ↦
          let all : Spread AreApart (map bare us) = spread_pairs AreApart apart_back (map bare us)
          (subst (AllPairs AreApart) (sym (uses_numbered 0 entries)) ok.accepted.apart) in
          let apart : AreApart u v =
          subst (λ x. AreApart x v) (bare_at us (r.cause, u) i u i_in i_is)
          (subst (λ y. AreApart (slice_index_or (map bare us) i u) y)
          (bare_at us (r.entry, v) j u j_in j_is)
          (all i j u (omega arith) (omega arith) other)) in
          apart.0 (clash_of u v r.reason why)
    ]

-- entries with a first refusal are not accepted
pub first_refused : (level : Level) (o : Option (List EntryValue)) (x : Refusal)
    (room : List EntryValue → Type 0) → IfSome o (λ entries. IsFirst level entries x)
    → IsSomeAnd o (λ entries. room entries × AcceptedAt level entries) → ⊥
first_refused level None x room h ok = ok
first_refused level (Some entries) x room h ok = no_refusal level entries ok.1 x h.is_true

-- no refusal names an entry
none_refused : (n : ℕ) → IsRefused [] n → ⊥
none_refused n (k, k_in, is) = omega arith

-- there is no refusal if and only if the entries are accepted
none_iff : (level : Level) (entries : List EntryValue) (list : List Refusal)
    → Decides level (numbered_from 0 entries) list → (list ≡ []) ↔ AcceptedAt level entries
none_iff level entries list h = (
  λ none. accepts level (IsRefused []) 0 entries
      (subst (Decides level (numbered_from 0 entries)) none h).others
      (λ k d k_in. none_refused (slice_index_or (numbered_from 0 entries) k d).0),
  λ ok. none list h.each ok,
)
  where
    none : (list : List Refusal) → All (IsTrueOf level (numbered_from 0 entries)) list
        → AcceptedAt level entries → list ≡ []
    none [] each ok = refl
    none (x ∷ xs) each ok = absurd (no_refusal level entries ok x (each 0 x (omega arith)))

-- there is none at marked slots if and only if the entries are accepted
pub accepted_entries : (level : Level) (r : List ℕ) (old sorted ss : List Slot)
    (list : List Refusal) → IsSplit r (length old) old → IsPermutation old sorted
    → map unmarked ss ≡ map unmarked sorted → Decides level (map (numbered_at r) ss) list
    → OnEntries r (λ entries. (list ≡ []) ↔ AcceptedAt level entries)
accepted_entries level r old sorted ss list s moved same h =
    on_split (λ entries. (list ≡ []) ↔ AcceptedAt level entries) r (length old) old s
    (none_iff level s.entries list (decided level r old sorted ss list s moved same h))

-- the first refusal of marked slots is the entries' first
pub first_of_entries : (level : Level) (r : List ℕ) (old sorted ss : List Slot)
    (first : Option Refusal) → IsSplit r (length old) old → IsPermutation old sorted
    → map unmarked ss ≡ map unmarked sorted
    → IfSome first (IsTrueOf level (map (numbered_at r) ss))
    → Settles level (IsFrom first) (map (numbered_at r) ss)
    → IfSome first (λ x. OnEntries r (λ entries. IsFirst level entries x))
first_of_entries level r old sorted ss None s moved same some others = tt
first_of_entries level r old sorted ss (Some x) s moved same some others =
    on_split (λ entries. IsFirst level entries x) r (length old) old s record {
      is_true = is_true level r old sorted ss s moved same x some;
      before = accepts_before level s.entries x.entry
          (settled level (λ k. x.entry ≤ k) r old sorted ss s moved same others);
    }

-- entries without a first refusal are accepted
pub none_first : (level : Level) (r : List ℕ) (old sorted ss : List Slot)
    (first : Option Refusal) → IsSplit r (length old) old → IsPermutation old sorted
    → map unmarked ss ≡ map unmarked sorted
    → Settles level (IsFrom first) (map (numbered_at r) ss) → first ≡ None
    → OnEntries r (AcceptedAt level)
none_first level r old sorted ss first s moved same others none =
    on_split (AcceptedAt level) r (length old) old s
    (accepts level (IsFrom None) 0 s.entries
    (settled level (IsFrom None) r old sorted ss s moved same
    (subst (λ o. Settles level (IsFrom o) (map (numbered_at r) ss)) none others))
    (λ k d k_in h. h))
