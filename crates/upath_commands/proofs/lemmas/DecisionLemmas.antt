-- What `archive` decides.
use Rattle.std.proofs.Common.{◌≡◌, ◌≢◌, ◌↔◌, inl, inr, ℕ, Bool, true, false, List, []}
use Rattle.std.proofs.Common.{◌∷◌, Option, Some, None, refl, sym, subst, ◌∙◌, true≢false}
use Rattle.std.proofs.Common.{if◌then◌else◌}
use Rattle.path_archive.specs.Entries.{EntryValue}
use Rattle.path_archive.specs.Records.{entries_in}
use Rattle.path_archive.specs.Refusals.{Decides, numbered_from}
use Rattle.path_archive.specs.Rule.{AcceptedAt}
use Rattle.path_archive.specs.declared.refusal.Refusal.{Refusal}
use Rattle.tar_listing.specs.Form.{IsRead, IsRefusedAt}
use Rattle.tar_listing.specs.Laws.{ListingReadsBack}
use Rattle.upath_commands.specs.Archives.{IsSafeIn, OnEntries, OnInput, cut_line, entries_messages}
use Rattle.upath_commands.specs.Archives.{entries_output, level_of, none_refused, refused_line}
use Rattle.upath_commands.specs.Archives.{AreSafe}
use Rattle.upath_commands.specs.declared.command.Options.{Options}

-- entries that are known twice are the same
same_entries : (o : Option (List EntryValue)) (es fs : List EntryValue) → o ≡ Some es
    → o ≡ Some fs → es ≡ fs
same_entries o es fs e f = (let g : Some es ≡ Some fs = sym e ∙ f in cc)

-- no entries are known
no_entries : {A : Type 0} (o : Option (List EntryValue)) (es : List EntryValue) → o ≡ None
    → o ≡ Some es → A
no_entries o es e f = absurd (let g : Some es ≡ None = sym f ∙ e in cc)

module _ (options : Options) where
  -- a record is cut off
  pub cut_texts : (P : List ℕ → List ℕ → Type 0) (records : List ℕ) → entries_in records ≡ None
      → P [] (if options.quiet then [] else cut_line records)
      → OnInput false options records P
  cut_texts P records none h = inl (cut_line records, (none, refl), h)

  -- no record is cut off
  pub records_texts : (P : List ℕ → List ℕ → Type 0) (records : List ℕ) (es : List EntryValue)
      (rs : List Refusal) → entries_in records ≡ Some es
      → Decides (level_of options) (numbered_from 0 es) rs
      → P (entries_output options es rs) (entries_messages options es rs)
      → OnInput false options records P
  records_texts P records es rs read decides h = inr (es, read, (rs, decides, h))

  -- a line isn't of the form
  pub line_texts : (P : List ℕ → List ℕ → Type 0) (listing : List ℕ) (n : ℕ)
      → IsRefusedAt listing n → P [] (if options.quiet then [] else refused_line n)
      → OnInput true options listing P
  line_texts P listing n at h = inl (refused_line n, (n, at, refl), h)

  -- a listing has the records' entries
  pub listing_texts : (P : List ℕ → List ℕ → Type 0) (listing records : List ℕ)
      → IsRead listing records → OnInput false options records P
      → OnInput true options listing P
  listing_texts P listing records is (inl (line, (none, same), h)) =
      no_entries (entries_in records) is.entries none is.read
  listing_texts P listing records is (inr (es, read, on)) =
      inr (
        is.entries,
        is.lines,
        subst (λ es. OnEntries options es P)
            (same_entries (entries_in records) es is.entries read is.read) on,
      )

module _ (options : Options) (safe : Bool) where
  -- an input that is refused as a whole isn't safe
  pub cut_safe : (records : List ℕ) → entries_in records ≡ None → safe ≡ false
      → (safe ≡ true) ↔ IsSafeIn false options records
  cut_safe records none is = (
    λ e. absurd (true≢false (sym e ∙ is)),
    λ h. no_entries (entries_in records) h.0 none h.1,
  )

  -- without refusals, there are entries
  none_some : (es : List EntryValue) (rs : List Refusal) → none_refused es rs ≡ true → es ≢ []
  none_some [] rs e same = absurd (true≢false (sym e))
  none_some (x ∷ es) rs e same = absurd (cc)

  none_empty : (es : List EntryValue) (rs : List Refusal) → none_refused es rs ≡ true → rs ≡ []
  none_empty [] rs e = absurd (true≢false (sym e))
  none_empty (x ∷ es) [] e = refl
  none_empty (x ∷ es) (r ∷ rs) e = absurd (true≢false (sym e))

  some_none : (es : List EntryValue) (rs : List Refusal) → es ≢ [] → rs ≡ []
      → none_refused es rs ≡ true
  some_none [] rs some none = absurd (some refl)
  some_none (x ∷ es) [] some none = refl
  some_none (x ∷ es) (r ∷ rs) some none = absurd (cc)

  -- entries are safe if there are some, without refusals
  pub records_safe : (records : List ℕ) (es : List EntryValue) (rs : List Refusal)
      → entries_in records ≡ Some es → (rs ≡ []) ↔ AcceptedAt (level_of options) es
      → safe ≡ none_refused es rs → (safe ≡ true) ↔ IsSafeIn false options records
  records_safe records es rs read accepted is = (
    λ e. (let none = sym is ∙ e in
        (es, read, (none_some es rs none, accepted.0 (none_empty es rs none)))),
    λ h. (let (fs, other, (some, all)) = h in
        let same = same_entries (entries_in records) fs es other read in
        is ∙ some_none es rs (λ empty. some (same ∙ empty))
        (accepted.1 (subst (AcceptedAt (level_of options)) same all))),
  )

  -- a listing is safe if its records are
  pub listing_safe : ListingReadsBack → (listing records : List ℕ) → IsRead listing records
      → (safe ≡ true) ↔ IsSafeIn false options records
      → (safe ≡ true) ↔ IsSafeIn true options listing
  listing_safe law listing records is h = (
    λ e. (let (es, read, all) = h.0 e in (
      is.entries,
      is.lines,
      subst (AreSafe options)
          (same_entries (entries_in records) es is.entries read is.read) all,
    )),
    λ k. (let (es, lines, all) = k in h.1 (es, (law listing es lines).1 records is, all)),
  )

  -- a listing of entries has no line that isn't of the form
  pub line_safe : ListingReadsBack → (listing : List ℕ) (n : ℕ) → IsRefusedAt listing n
      → safe ≡ false → (safe ≡ true) ↔ IsSafeIn true options listing
  line_safe law listing n at is = (
    λ e. absurd (true≢false (sym e ∙ is)),
    λ h. absurd ((law listing h.0 h.1).0 n at),
  )
