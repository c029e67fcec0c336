-- Records split into slots.
use Rattle.std.proofs.Common.{◌≡◌, ◌≢◌, ◌≤◌, ◌<◌, ◌+◌, ℕ, suc, zero, List, [], ◌∷◌, ◌++◌, map}
use Rattle.std.proofs.Common.{length, refl, sym, ap, ap₂, ◌∙◌, subst, arith, drop, slice_range}
use Rattle.std.proofs.Common.{Option, Some, None, IfSome, slice_set, take, if◌then◌else◌, ◌==◌}
use Rattle.std.specs.Option.{option_map}
use Rattle.std.proofs.lemmas.List.{append-nil, append_assoc, drop_all, length-append, length-map}
use Rattle.std.proofs.lemmas.List.{length-set, length-take-le, length_push, map-append, map_push}
use Rattle.std.proofs.lemmas.List.{take_all, take_more_set}
use Rattle.path_archive.specs.Entries.{EntryValue, DirectoryEntry, FileEntry, SymlinkEntry}
use Rattle.path_archive.specs.Entries.{HardLinkEntry, OtherEntry, UsedAsTarget, Use, all_uses}
use Rattle.path_archive.specs.Entries.{link_use, use_as, uses_of}
use Rattle.path_archive.specs.Records.{HasTarget, IsInRange, IsKind, IsSplit, OnEntries, entries_in}
use Rattle.path_archive.specs.Records.{entries_of, entry_of_rank, fields_of, record_entry}
use Rattle.path_archive.specs.Refusals.{numbered, numbered_at, numbered_from}
use Rattle.path_archive.specs.Slots.{field_at, use_at, used_as_of}
use Rattle.path_archive.proofs.lemmas.refusals.NumberLemmas.{uses_numbered}
use Rattle.path_archive.specs.declared.records.Record.{Record}
use Rattle.path_archive.specs.declared.slot.Slot.{Slot}

-- an entry that isn't a hard link uses its own path
own_use : (k : ℕ) (path target field : List ℕ) → k ≢ 1 → k ≢ 2 → k ≤ 5 → field ≡ target
    → (let own : Use = record {
      used_as = used_as_of k;
      path = path;
      target = (if k == 0 then field else []);
    } in own ∷ []) ≡ uses_of (entry_of_rank k path target)
own_use zero p t f h i l is = ap (λ x. link_use p x ∷ []) is
own_use (suc zero) p t f h i l is = absurd (h refl)
own_use (suc (suc zero)) p t f h i l is = absurd (i refl)
own_use (suc (suc (suc zero))) p t f h i l is = refl
own_use (suc (suc (suc (suc zero)))) p t f h i l is = refl
own_use (suc (suc (suc (suc (suc zero))))) p t f h i l is = refl
own_use (suc (suc (suc (suc (suc (suc k)))))) p t f h i l is = absurd (omega arith)

-- uses with a number
abbrev with_number : ℕ → List Use → List (ℕ × Use)
with_number n us = map (λ u. (n, u)) us

-- an entry that isn't a hard link has one use
pub one_own : (r : List ℕ) (x : Record) (n : ℕ) → IsKind x.rank → x.rank ≢ 1
    → length (numbered n (record_entry r x)) ≡ 1
one_own r x n kind other =
    sym (ap (λ us. length (with_number n us)) (own_use x.rank
    (slice_range r x.start x.end) (slice_range r (x.end + 1) x.target_end)
    (slice_range r (x.end + 1) x.target_end) other kind.own kind.most refl))

-- a hard link has two
pub two_own : (r : List ℕ) (x : Record) (n : ℕ) → x.rank ≡ 1
    → length (numbered n (record_entry r x)) ≡ 2
two_own r x n link = ap (λ k. length (numbered n (entry_of_rank k
    (slice_range r x.start x.end) (slice_range r (x.end + 1) x.target_end)))) link

-- the slot of a record's own use
pub slots_own : (r : List ℕ) (old now : List Slot) (k : ℕ) (x : Record) (n : ℕ) → IsKind x.rank
    → x.rank ≢ 1 → HasTarget r x → k < length old
    → now ≡ slice_set old k (record
    { start = x.start; end = x.end; rank = x.rank; entry = n; cause = 0 })
    → map (numbered_at r) (take (k + 1) now)
    ≡ map (numbered_at r) (take k old) ++ numbered n (record_entry r x)
unfolding use_at
slots_own r old now k x n kind other target k_in is =
    ap (λ ss. map (numbered_at r) (take (k + 1) ss)) is
    ∙ ap (map (numbered_at r)) (take_more_set old k _ k_in)
    ∙ map_push (numbered_at r) (take k old) _
    ∙ ap (λ us. map (numbered_at r) (take k old) ++ map (λ u. (n, u)) us)
    (own_use x.rank (slice_range r x.start x.end)
    (slice_range r (x.end + 1) x.target_end) (field_at r (x.end + 1)) other kind.own kind.most
    target)

-- the slots of a hard link
pub slots_link : (r : List ℕ) (old mid now : List Slot) (k : ℕ) (x : Record) (n : ℕ)
    → x.rank ≡ 1 → k + 2 ≤ length old
    → mid ≡ slice_set old k (record
    { start = x.start; end = x.end; rank = x.rank; entry = n; cause = 0 })
    → now ≡ slice_set mid (k + 1) (record
    { start = x.end + 1; end = x.target_end; rank = 2; entry = n; cause = 0 })
    → map (numbered_at r) (take (k + 2) now)
    ≡ map (numbered_at r) (take k old) ++ numbered n (record_entry r x)
unfolding use_at
slots_link r old mid now k x n link k_in is_mid is =
    let first : Slot = record
    { start = x.start; end = x.end; rank = x.rank; entry = n; cause = 0 } in
    let second : Slot = record
    { start = x.end + 1; end = x.target_end; rank = 2; entry = n; cause = 0 } in
    let size : length mid ≡ length old = ap length is_mid ∙ length-set old k first in
    let next : k + 2 ≡ k + 1 + 1 = omega arith in
    ap₂ (λ j ss. map (numbered_at r) (take j ss)) next is
    ∙ ap (map (numbered_at r)) (take_more_set mid (k + 1) second (omega arith)
    ∙ ap (λ ss. ss ++ second ∷ []) (ap (take (k + 1)) is_mid
    ∙ take_more_set old k first (omega arith)) ∙ append_assoc (take k old) _ _)
    ∙ map-append (numbered_at r) (take k old) _
    ∙ ap (λ us. map (numbered_at r) (take k old) ++ map (λ u. (n, u)) us) uses
  where
    path : List ℕ
    path = slice_range r x.start x.end

    to : List ℕ
    to = slice_range r (x.end + 1) x.target_end

    uses : (let own : Use = record {
      used_as = used_as_of x.rank;
      path = path;
      target = (if x.rank == 0 then field_at r (x.end + 1) else []);
    } in own ∷ use_as UsedAsTarget to ∷ []) ≡ uses_of (entry_of_rank x.rank path to)
    uses = subst (λ k. (let own : Use = record {
      used_as = used_as_of k;
      path = path;
      target = (if k == 0 then field_at r (x.end + 1) else []);
    } in own ∷ use_as UsedAsTarget to ∷ []) ≡ uses_of (entry_of_rank k path to)) (sym link) refl

-- one more entry's uses
numbered_snoc : (n : ℕ) (es : List EntryValue) (e : EntryValue)
    → numbered_from n (es ++ e ∷ []) ≡ numbered_from n es ++ numbered (n + length es) e
numbered_snoc n [] e = append-nil (numbered n e) ∙ ap (λ k. numbered k e) (omega arith)
numbered_snoc n (x ∷ es) e =
    let index : n + 1 + length es ≡ n + suc (length es) = omega arith in
    ap (λ us. numbered n x ++ us) (numbered_snoc (n + 1) es e
    ∙ ap (λ k. numbered_from (n + 1) es ++ numbered k e) index)
    ∙ sym (append_assoc (numbered n x) (numbered_from (n + 1) es)
    (numbered (n + suc (length es)) e))

-- an entry has at most two uses
numbered_few : (n : ℕ) (e : EntryValue) → length (numbered n e) ≤ 2
numbered_few n (DirectoryEntry p) = omega arith
numbered_few n (FileEntry p) = omega arith
numbered_few n (SymlinkEntry p t) = omega arith
numbered_few n (HardLinkEntry p t) = omega arith
numbered_few n (OtherEntry p) = omega arith

-- what holds before the record at `at` is read
pub record SplitHolds (r : List ℕ) (at entry count : ℕ) (slots : List Slot) : Type 0 where
  pub done : List EntryValue
  pub whole : entries_in r ≡ option_map (λ more. done ++ more) (entries_of (fields_of (drop at r)))
  pub count_is : count ≡ length (numbered_from 0 done)
  pub uses : count ≤ length slots
      → map (numbered_at r) (take count slots) ≡ numbered_from 0 done
  pub number : entry ≡ length done
  pub at_in : at ≤ length r
  pub entry_in : entry ≤ at
  pub count_in : count ≤ at

-- nothing put before entries
same_option : (o : Option (List EntryValue)) → o ≡ option_map (λ more. [] ++ more) o
same_option None = refl
same_option (Some es) = refl

-- nothing is read at first
pub split_starts : (r : List ℕ) (slots : List Slot) → SplitHolds r 0 0 0 slots
unfolding entries_in
split_starts r slots = record {
  done = [];
  whole = same_option (entries_of (fields_of r));
  count_is = refl;
  uses = λ h. refl;
  number = refl;
  at_in = omega arith;
  entry_in = omega arith;
  count_in = omega arith;
}

-- an entry put before entries, and others before it
both_options : (done : List EntryValue) (e : EntryValue) (o : Option (List EntryValue))
    → option_map (λ more. done ++ more) (option_map (λ es. e ∷ es) o)
    ≡ option_map (λ more. (done ++ e ∷ []) ++ more) o
both_options done e None = refl
both_options done e (Some es) = ap Some (sym (append_assoc done (e ∷ []) es))

-- one more record is read
pub split_step : (r : List ℕ) (at entry count next : ℕ) (old now : List Slot) (x : Record)
    → SplitHolds r at entry count old → IsInRange at (length r) x → length now ≡ length old
    → entries_of (fields_of (drop at r)) ≡ option_map (λ es. record_entry r x ∷ es)
    (entries_of (fields_of (drop (x.target_end + 1) r)))
    → next ≡ count + length (numbered entry (record_entry r x))
    → (next ≤ length now → map (numbered_at r) (take next now)
    ≡ map (numbered_at r) (take count old) ++ numbered entry (record_entry r x))
    → SplitHolds r (x.target_end + 1) (entry + 1) next now
split_step r at entry count next old now x h range size read more_count more = record {
  done = h.done ++ record_entry r x ∷ [];
  whole = h.whole ∙ ap (option_map (λ more. h.done ++ more)) read
      ∙ both_options h.done (record_entry r x)
      (entries_of (fields_of (drop (x.target_end + 1) r)));
  count_is = (let parts = length-append (numbered_from 0 h.done)
      (numbered entry (record_entry r x)) in
      let was = h.count_is in
      let whole = ap length added in omega arith);
  uses = λ room. (let few : count ≤ length old = omega arith in
      more room ∙ ap (λ us. us ++ numbered entry (record_entry r x)) (h.uses few) ∙ sym added);
  number = (let longer = length_push h.done (record_entry r x) in
      let was = h.number in omega arith);
  at_in = (let end = range.end in omega arith);
  entry_in = (let was = h.entry_in in omega arith);
  count_in = (let was = h.count_in in
      let few = numbered_few entry (record_entry r x) in omega arith);
}
  where
    from : at + 2 ≤ x.target_end
    from = let start = range.start in
        let path = range.path in
        let target = range.target in omega arith

    added : numbered_from 0 (h.done ++ record_entry r x ∷ [])
        ≡ numbered_from 0 h.done ++ numbered entry (record_entry r x)
    added = let index : 0 + length h.done ≡ entry = omega (arith, h.number) in
        numbered_snoc 0 h.done (record_entry r x)
        ∙ ap (λ k. numbered_from 0 h.done ++ numbered k (record_entry r x)) index

-- a record is cut off
pub split_cut : (r : List ℕ) (at entry count : ℕ) (slots : List Slot)
    → SplitHolds r at entry count slots → entries_of (fields_of (drop at r)) ≡ None
    → entries_in r ≡ None
split_cut r at entry count slots h none =
    h.whole ∙ ap (option_map (λ more. h.done ++ more)) none

-- the number of uses
uses_size : (n : ℕ) (es : List EntryValue) → length (numbered_from n es) ≡ length (all_uses es)
uses_size n es = sym (length-map (numbered_from n es) (λ (a : ℕ × Use). a.1))
    ∙ ap length (uses_numbered n es)

-- all records are read
pub split_ends : (r : List ℕ) (at entry count : ℕ) (slots : List Slot)
    → SplitHolds r at entry count slots → length r ≤ at → IsSplit r count slots
split_ends r at entry count slots h end = record {
  entries = h.done;
  read = h.whole ∙ ap (λ s. option_map (λ more. h.done ++ more) (entries_of (fields_of s)))
      (drop_all at r end) ∙ ap Some (append-nil h.done);
  count_is = h.count_is ∙ uses_size 0 h.done;
  uses = h.uses;
}

-- records that are split aren't cut off
pub split_whole : (r : List ℕ) (count : ℕ) (slots : List Slot) → IsSplit r count slots
    → entries_in r ≡ None → ⊥
split_whole r count slots split none =
    let e : Some split.entries ≡ None = sym split.read ∙ none in cc

-- the number of uses of the entries
pub split_count : (r : List ℕ) (count : ℕ) (slots : List Slot) → IsSplit r count slots
    → OnEntries r (λ es. count ≡ length (all_uses es))
split_count r count slots split =
    subst (λ o. IfSome o (λ es. count ≡ length (all_uses es))) (sym split.read) split.count_is

-- the uses at slots, of which there are as many as there are uses
pub split_uses : (r : List ℕ) (slots : List Slot) (s : IsSplit r (length slots) slots)
    → map (numbered_at r) slots ≡ numbered_from 0 s.entries
split_uses r slots s =
    ap (map (numbered_at r)) (sym (take_all (length slots) slots (omega arith)))
    ∙ s.uses (omega arith)

-- the slots that are filled
pub split_taken : (r : List ℕ) (count : ℕ) (slots : List Slot) → IsSplit r count slots
    → count ≤ length slots
    → IsSplit r (length (take count slots)) (take count slots)
split_taken r count slots split room =
    let size : length (take count slots) ≡ count = length-take-le count slots room in
    subst (λ n. IsSplit r n (take count slots)) (sym size) record {
      entries = split.entries;
      read = split.read;
      count_is = split.count_is;
      uses = λ h. ap (map (numbered_at r)) (take_all count (take count slots) (omega arith))
          ∙ split.uses room;
    }

-- two counts of the uses of the same entries
pub split_full : (r : List ℕ) (n count : ℕ) (slots : List Slot)
    → OnEntries r (λ es. n ≡ length (all_uses es)) → IsSplit r count slots → length slots ≡ n
    → IsSplit r (length slots) slots
split_full r n count slots needed split size =
    let same : n ≡ length (all_uses split.entries) =
    subst (λ o. IfSome o (λ es. n ≡ length (all_uses es))) split.read needed in
    subst (λ k. IsSplit r k slots) (split.count_is ∙ sym same ∙ sym size) split
