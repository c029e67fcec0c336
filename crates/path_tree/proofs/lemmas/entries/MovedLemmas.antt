-- Entries that are moved under another base, and taken away again if the move fails.
use Rattle.std.proofs.Common.{arith}
use Rattle.std.proofs.lemmas.Grind.{common_steps}
use Rattle.std.proofs.Common.{◌≡◌, ◌∙◌, ℕ, Bool, true, false, cond, List, [], ◌∷◌, ◌++◌}
use Rattle.std.proofs.Common.{ap, ap₂, append_assoc, drop, eqb, length, not, refl, subst, sym}
use Rattle.std.proofs.Common.{Less, Equal, Greater}
use Rattle.std.proofs.lemmas.Cmp.{nat_list_cmp_total}
use Rattle.std.proofs.lemmas.List.{length-map}
use Rattle.std.proofs.lemmas.List.Elements.{All-from_recursion, recursion_from_All}
use Rattle.std.proofs.lemmas.Map.Keys.{sorted_head, sorted_tail}
use Rattle.std.proofs.lemmas.Map.Lookups.{exact_bytes}
use Rattle.std.proofs.lemmas.Map.Views.{All-keys-insert_entry}
use Rattle.std.specs.BTreeMap.{insert_entry}
use Rattle.std.specs.List.{AllByRecursion, filter, starts_with}
use Rattle.std.specs.List.Sorted.{IsStrictlySortedBy}
use Rattle.std.specs.Map.{keys_of}
use Rattle.std.specs.Ordering.{match_ordering, ordering_reverse}
use Rattle.unix_bytes.proofs.lemmas.lists.ListLemmas.{by_test}
use Rattle.unix_path.specs.Prefixes.{IsPrefixOf}
use Rattle.path_keys.specs.Ranges.{bytes_cmp}
use Rattle.path_keys.proofs.lemmas.values.BeginLemmas.{begins_told}
use Rattle.path_tree.specs.Entries.{entries_outside, entries_under}
use Rattle.path_tree.specs.Many.{entries_with}
use Rattle.path_tree.specs.Moved.{moved_entries, moved_entry}
use Rattle.path_tree.proofs.lemmas.entries.WalkLemmas.{all_kept, all_more}

-- if `base` is a prefix of s, s starts with `base`
starts_by_prefix : (base s : List ℕ) → IsPrefixOf base s → starts_with eqb s base ≡ true
starts_by_prefix base s = (begins_told s base (starts_with eqb s base) refl).1

-- if s starts with `base`, `base` is a prefix of s
prefix_by_starts : (base s : List ℕ) → starts_with eqb s base ≡ true → IsPrefixOf base s
prefix_by_starts base s = (begins_told s base (starts_with eqb s base) refl).0

module _ {V : Type 0} (v : List ℕ) (x : V) where
  -- if v is less than the keys of all entries, inserting at v puts an entry before them
  insert_first : (entries : List (List ℕ × V))
      → AllByRecursion (λ w. bytes_cmp v w ≡ Less) (keys_of entries)
      → insert_entry bytes_cmp entries v x ≡ (v, x) ∷ entries
  insert_first [] all = refl
  insert_first (e ∷ entries) all =
      ap (λ o. match_ordering o ((v, x) ∷ e ∷ entries) ((e.0, x) ∷ entries)
      (e ∷ insert_entry bytes_cmp entries v x)) all.0

  -- if v is less than w, and w is less than the keys of all entries, so is v
  less_all : (w : List ℕ) → bytes_cmp v w ≡ Less → (entries : List (List ℕ × V))
      → AllByRecursion (λ u. bytes_cmp w u ≡ Less) (keys_of entries)
      → AllByRecursion (λ u. bytes_cmp v u ≡ Less) (keys_of entries)
  less_all w less entries =
      all_more _ _ (λ u. nat_list_cmp_total.trans v w u less) (keys_of entries)

  -- if w is less than v and than the keys of all entries, it is less than those of all entries
  -- after an insertion at v
  all_insert : (w : List ℕ) → bytes_cmp w v ≡ Less → (entries : List (List ℕ × V))
      → AllByRecursion (λ u. bytes_cmp w u ≡ Less) (keys_of entries)
      → AllByRecursion (λ u. bytes_cmp w u ≡ Less) (keys_of (insert_entry bytes_cmp entries v x))
  all_insert w less entries all =
      let P : List ℕ → Type 0 = λ u. bytes_cmp w u ≡ Less in
      recursion_from_All P _
      (All-keys-insert_entry bytes_cmp v x P entries (All-from_recursion P _ all) less)

  -- if the entries are sorted, they are sorted after an insertion
  pub sorted-insert : (entries : List (List ℕ × V)) → IsStrictlySortedBy bytes_cmp (keys_of entries)
      → IsStrictlySortedBy bytes_cmp (keys_of (insert_entry bytes_cmp entries v x))
  unfolding IsStrictlySortedBy
  sorted-insert [] sorted = (tt, tt)
  sorted-insert (e ∷ entries) sorted =
      elim (bytes_cmp v e.0) as (λ o. bytes_cmp v e.0 ≡ o → IsStrictlySortedBy bytes_cmp
      (keys_of (match_ordering o ((v, x) ∷ e ∷ entries) ((e.0, x) ∷ entries)
      (e ∷ insert_entry bytes_cmp entries v x)))) [
        | Less ↦ λ is. ((is, less_all e.0 is entries sorted.0), sorted)
        | Equal ↦ λ is. sorted
        | Greater ↦ λ is. (
          all_insert e.0 (nat_list_cmp_total.antisymm e.0 v ∙ ap ordering_reverse is) entries
              sorted.0,
          sorted-insert entries sorted.1,
        )
      ] refl

  module _ (q : List ℕ → Bool) where
    -- if v fails the test q, the entries that pass q are the same before and after an insertion
    -- at v
    pub filter-other : q v ≡ false → (entries : List (List ℕ × V))
        → filter (λ e. q e.0) (insert_entry bytes_cmp entries v x)
        ≡ filter (λ e. q e.0) entries
    filter-other other [] = rw other refl
    filter-other other (e ∷ entries) =
        elim (bytes_cmp v e.0) as (λ o. bytes_cmp v e.0 ≡ o → filter (λ e. q e.0)
        (match_ordering o ((v, x) ∷ e ∷ entries) ((e.0, x) ∷ entries)
        (e ∷ insert_entry bytes_cmp entries v x)) ≡ filter (λ e. q e.0) (e ∷ entries)) [
          | Less ↦ λ is. rw other refl
          | Equal ↦ λ is. rw (ap q (sym (exact_bytes v e.0 is)) ∙ other) refl
          | Greater ↦ λ is. ap (λ kept. cond (q e.0) (e ∷ kept) kept) (filter-other other entries)
        ] refl

    -- if v passes the test q, inserting at v and then filtering by q leads to the same entries as
    -- filtering by q and then inserting at v
    pub filter-insert : q v ≡ true → (entries : List (List ℕ × V))
        → IsStrictlySortedBy bytes_cmp (keys_of entries)
        → filter (λ e. q e.0) (insert_entry bytes_cmp entries v x)
        ≡ insert_entry bytes_cmp (filter (λ e. q e.0) entries) v x
    filter-insert kept [] sorted = rw kept refl
    filter-insert kept (e ∷ entries) sorted =
        elim (bytes_cmp v e.0) as (λ o. bytes_cmp v e.0 ≡ o → filter (λ e. q e.0)
        (match_ordering o ((v, x) ∷ e ∷ entries) ((e.0, x) ∷ entries)
        (e ∷ insert_entry bytes_cmp entries v x))
        ≡ insert_entry bytes_cmp (filter (λ e. q e.0) (e ∷ entries)) v x) [
          | Less ↦ λ is. rw kept (sym (insert_first _ (all_kept (λ e. e.0) (λ e. q e.0)
              (λ u. bytes_cmp v u ≡ Less) (e ∷ entries)
              (is, less_all e.0 is entries (sorted_head bytes_cmp e.0 _ sorted)))))
          | Equal ↦ λ is. let same = ap q (sym (exact_bytes v e.0 is)) ∙ kept in
              rw (same, is) refl
          | Greater ↦ λ is.
              let rest = filter-insert kept entries (sorted_tail bytes_cmp e.0 _ sorted) in
              by_test (q e.0)
              (λ same. rw (same, is) (ap (λ l. e ∷ l) rest))
              (λ fails. rw fails rest)
        ] refl

-- if none of `others` is under `base`, inserting them and then removing the entries under `base`
-- leads to the same entries as removing these and then inserting `others`
pub outside-with : {V : Type 0} (base : List ℕ) (entries others : List (List ℕ × V))
    → IsStrictlySortedBy bytes_cmp (keys_of entries)
    → AllByRecursion (λ e. starts_with eqb e.0 base ≡ false) others
    → entries_outside base (entries_with entries others)
    ≡ entries_with (entries_outside base entries) others
outside-with base entries [] sorted all = refl
outside-with base entries (e ∷ others) sorted all =
    outside-with base (insert_entry bytes_cmp entries e.0 e.1) others
    (sorted-insert e.0 e.1 entries sorted) all.1
    ∙ ap (λ l. entries_with l others)
    (filter-insert e.0 e.1 (λ v. not (starts_with eqb v base)) (ap not all.0) entries sorted)

-- if all of `others` are under `to`, inserting them and then removing the entries under `to` leads
-- to the same entries as removing these
outside-inserted : {V : Type 0} (to : List ℕ) (entries others : List (List ℕ × V))
    → AllByRecursion (λ e. starts_with eqb e.0 to ≡ true) others
    → entries_outside to (entries_with entries others) ≡ entries_outside to entries
outside-inserted to entries [] all = refl
outside-inserted to entries (e ∷ others) all =
    outside-inserted to (insert_entry bytes_cmp entries e.0 e.1) others all.1
    ∙ filter-other e.0 e.1 (λ v. not (starts_with eqb v to)) (ap not all.0) entries

-- if there are no entries under `base`, no key starts with `base`
pub none_under : {V : Type 0} (base : List ℕ) (entries : List (List ℕ × V))
    → entries_under base entries ≡ []
    → AllByRecursion (λ e. starts_with eqb e.0 base ≡ false) entries
none_under base [] none = tt
none_under base (e ∷ entries) none = by_test (starts_with eqb e.0 base)
    (λ under. absurd (let e = rw under at none in cc))
    (λ other. (other, none_under base entries (rw other at none)))

-- if no entry is under `base`, all entries are outside it
all_outside : {V : Type 0} (base : List ℕ) (entries : List (List ℕ × V))
    → AllByRecursion (λ e. starts_with eqb e.0 base ≡ false) entries
    → entries_outside base entries ≡ entries
all_outside base [] all = refl
all_outside base (e ∷ entries) all = rw all.0 (ap (λ l. e ∷ l) (all_outside base entries all.1))

-- all entries that are moved to `to` are under `to`
moved_under : {V : Type 0} (to from : List ℕ) (some : List (List ℕ × V))
    → AllByRecursion (λ e. starts_with eqb e.0 to ≡ true) (moved_entries from to some)
moved_under to from [] = tt
moved_under to from (e ∷ some) = by_test (starts_with eqb e.0 from)
    (λ under. rw under (
      starts_by_prefix to (to ++ drop (length from) e.0) (drop (length from) e.0, refl),
      moved_under to from some,
    ))
    (λ other. rw other (moved_under to from some))

-- if P holds of all items of xs followed by ys, it holds of all items of xs
all_first : {A : Type 0} (P : A → Type 0) (xs ys : List A) → AllByRecursion P (xs ++ ys)
    → AllByRecursion P xs
all_first P [] ys all = tt
all_first P (x ∷ xs) ys all = (all.0, all_first P xs ys all.1)

-- if no entry is under `to`, inserting the first of the moved entries and then removing the entries
-- under `to` leads back to the entries
pub taken_back : {V : Type 0} (to from : List ℕ) (entries front last : List (List ℕ × V))
    → entries_under to entries ≡ [] → moved_entries from to entries ≡ front ++ last
    → entries_outside to (entries_with entries front) ≡ entries
taken_back to from entries front last free split =
    outside-inserted to entries front
    (all_first (λ e. starts_with eqb e.0 to ≡ true) front last
    (subst (AllByRecursion (λ e. starts_with eqb e.0 to ≡ true)) split
    (moved_under to from entries)))
    ∙ all_outside to entries (none_under to entries free)

-- if `from` is a prefix of `to` followed by w, but not of `to`, then `to` is a prefix of `from`
source_longer : (from to w : List ℕ) → (IsPrefixOf from to → ⊥) → IsPrefixOf from (to ++ w)
    → IsPrefixOf to from
source_longer from [] w apart begins = (from, refl)
source_longer [] (v ∷ to) w apart begins = absurd (apart (v ∷ to, refl))
source_longer (u ∷ from) (v ∷ to) w apart begins =
    let e = begins.1 in
    let first : u ≡ v = cc in
    let rest : from ++ begins.0 ≡ to ++ w = cc in
    let more = source_longer from to w (λ h. apart (h.0, ap₂ (λ x xs. x ∷ xs) first h.1))
    (begins.0, rest) in
    (more.0, ap₂ (λ x xs. x ∷ xs) (sym first) more.1)

-- if `from` is not a prefix of `to`, and v is under `from`, but not under `to`, then `to` followed
-- by w is not under `from`
not_under_source : (from to v w : List ℕ) → (IsPrefixOf from to → ⊥) → starts_with eqb v to ≡ false
    → starts_with eqb v from ≡ true → starts_with eqb (to ++ w) from ≡ false
not_under_source from to v w apart free under =
    grind (arith, common_steps, source_longer, starts_by_prefix, prefix_by_starts, append_assoc)

module _ {V : Type 0} (from to : List ℕ) (apart : IsPrefixOf from to → ⊥) where
  -- if `from` is not a prefix of `to`, and no entry is under `to`, no moved entry is under `from`
  pub moved_outside : (entries : List (List ℕ × V))
      → AllByRecursion (λ e. starts_with eqb e.0 to ≡ false) entries
      → AllByRecursion (λ e. starts_with eqb e.0 from ≡ false) (moved_entries from to entries)
  moved_outside [] free = tt
  moved_outside (e ∷ entries) free = by_test (starts_with eqb e.0 from)
      (λ under. rw under (
        not_under_source from to e.0 (drop (length from) e.0) apart free.0 under,
        moved_outside entries free.1,
      ))
      (λ other. rw other (moved_outside entries free.1))

-- if e is under `from`, the moved entries of e and `entries` are e, moved, and then those of
-- `entries`
pub moves_entry : {V : Type 0} (from to : List ℕ) (e : List ℕ × V)
    (entries : List (List ℕ × V)) → starts_with eqb e.0 from ≡ true
    → moved_entries from to (e ∷ entries) ≡ moved_entry from to e ∷ moved_entries from to entries
moves_entry from to e entries under = grind arith

-- if e is not under `from`, the moved entries of e and `entries` are those of `entries`
pub leaves_entry : {V : Type 0} (from to : List ℕ) (e : List ℕ × V)
    (entries : List (List ℕ × V)) → starts_with eqb e.0 from ≡ false
    → moved_entries from to (e ∷ entries) ≡ moved_entries from to entries
leaves_entry from to e entries other = grind arith

-- the number of moved entries is the number of entries under `from`
pub length-moved : {V : Type 0} (from to : List ℕ) (entries : List (List ℕ × V))
    → length (moved_entries from to entries) ≡ length (entries_under from entries)
length-moved from to entries = length-map (entries_under from entries) (moved_entry from to)
