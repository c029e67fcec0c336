-- Records read as entries.
use Rattle.std.proofs.Common.{◌≡◌, ◌≤◌, ◌+◌, ℕ, List, [], ◌∷◌, ◌++◌, length, refl, sym, ap}
use Rattle.std.proofs.Common.{◌∙◌, arith, drop, Option, Some, None}
use Rattle.std.specs.Option.{option_map}
use Rattle.std.proofs.lemmas.List.{append-nil, append_assoc, drop_all}
use Rattle.path_archive.specs.Entries.{EntryValue}
use Rattle.path_archive.specs.Records.{IsInRange, entries_in, entries_of, fields_of, record_entry}
use Rattle.path_archive.specs.declared.records.Record.{Record}

-- what holds before the record at `at` is read: the entries before it are `done`
pub record EntriesHold (r : List ℕ) (at : ℕ) (done : List EntryValue) : Type 0 where
  pub whole : entries_in r ≡ option_map (λ more. done ++ more) (entries_of (fields_of (drop at r)))
  pub at_in : at ≤ length r

-- nothing put before entries
same_option : (o : Option (List EntryValue)) → o ≡ option_map (λ more. [] ++ more) o
same_option None = refl
same_option (Some es) = refl

-- nothing is read at first
pub entries_start : (r : List ℕ) → EntriesHold r 0 []
unfolding entries_in
entries_start r =
    record { whole = same_option (entries_of (fields_of r)); at_in = omega arith }

-- an entry put before entries, and others before it
both_options : (done : List EntryValue) (e : EntryValue) (o : Option (List EntryValue))
    → option_map (λ more. done ++ more) (option_map (λ es. e ∷ es) o)
    ≡ option_map (λ more. (done ++ e ∷ []) ++ more) o
both_options done e None = refl
both_options done e (Some es) = ap Some (sym (append_assoc done (e ∷ []) es))

-- one more record is read
pub entries_step : (r : List ℕ) (at : ℕ) (done now : List EntryValue) (x : Record)
    → EntriesHold r at done → IsInRange at (length r) x
    → entries_of (fields_of (drop at r)) ≡ option_map (λ es. record_entry r x ∷ es)
    (entries_of (fields_of (drop (x.target_end + 1) r)))
    → now ≡ done ++ record_entry r x ∷ []
    → EntriesHold r (x.target_end + 1) now
entries_step r at done now x h range read is = record {
  whole = h.whole ∙ ap (option_map (λ more. done ++ more)) read
      ∙ both_options done (record_entry r x)
      (entries_of (fields_of (drop (x.target_end + 1) r)))
      ∙ ap (λ es. option_map (λ more. es ++ more)
      (entries_of (fields_of (drop (x.target_end + 1) r)))) (sym is);
  at_in = (let end = range.end in omega arith);
}

-- a record is cut off
pub entries_cut : (r : List ℕ) (at : ℕ) (done : List EntryValue) → EntriesHold r at done
    → entries_of (fields_of (drop at r)) ≡ None → None ≡ entries_in r
entries_cut r at done h none = sym (h.whole ∙ ap (option_map (λ more. done ++ more)) none)

-- all records are read
pub entries_end : (r : List ℕ) (at : ℕ) (done : List EntryValue) → EntriesHold r at done
    → length r ≤ at → Some done ≡ entries_in r
entries_end r at done h end =
    sym (h.whole ∙ ap (λ s. option_map (λ more. done ++ more) (entries_of (fields_of s)))
    (drop_all at r end) ∙ ap Some (append-nil done))
