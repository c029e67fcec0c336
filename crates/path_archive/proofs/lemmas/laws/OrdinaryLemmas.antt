-- Ordinary entries are accepted.
use Rattle.std.specs.Prelude.{◌≡◌, ◌⊎◌, ◌<◌, ℕ, suc, zero, true, false, List, [], ◌∷◌, Contains}
use Rattle.std.specs.Prelude.{All, length, slice_index_or}
use Rattle.std.proofs.Common.{subst, refl, arith}
use Rattle.std.proofs.lemmas.List.{get_or_default}
use Rattle.std.proofs.lemmas.List.Elements.{All-contains}
use Rattle.path_archive.specs.Entries.{EntryValue, DirectoryEntry, FileEntry, SymlinkEntry}
use Rattle.path_archive.specs.Entries.{HardLinkEntry, OtherEntry, UsedAsDirectory, UsedAsFile, Use}
use Rattle.path_archive.specs.Entries.{use_as, all_uses, is_plain}
use Rattle.path_archive.specs.Laws.{IsOrdinary}
use Rattle.path_archive.specs.Rule.{Accepted, Closed, Clash}

-- a use of a directory or a file among the entries
pub data PlainUse (entries : List EntryValue) : Use → Type 0 where
  of_directory : (p : List ℕ) → Contains entries (DirectoryEntry p)
      → PlainUse entries (use_as UsedAsDirectory p)
  of_file : (p : List ℕ) → Contains entries (FileEntry p) → PlainUse entries (use_as UsedAsFile p)

-- an entry among later ones
later : (e x : EntryValue) (xs : List EntryValue) → Contains xs e → Contains (x ∷ xs) e
later e x xs (k, k_in, is) = (suc k, omega arith, is)

-- a use among more entries
wider : (u : Use) (x : EntryValue) (xs : List EntryValue) → PlainUse xs u → PlainUse (x ∷ xs) u
wider u x xs (of_directory p c) = of_directory p (later (DirectoryEntry p) x xs c)
wider u x xs (of_file p c) = of_file p (later (FileEntry p) x xs c)

-- the first entry
first_entry : (e : EntryValue) (es : List EntryValue) → Contains (e ∷ es) e
first_entry e es = (0, omega arith, refl)

-- all but the first entry are plain
rest_plain : (x : EntryValue) (xs : List EntryValue) → All (λ e. is_plain e ≡ true) (x ∷ xs)
    → All (λ e. is_plain e ≡ true) xs
rest_plain x xs plain = λ k d k_in. plain (suc k) d (omega arith)

-- each use is of a directory or a file
plain_use : (entries : List EntryValue) → All (λ e. is_plain e ≡ true) entries → (u : Use)
    → Contains (all_uses entries) u → PlainUse entries u
plain_use [] plain u c = absurd (omega (arith, c.1))
plain_use (DirectoryEntry p ∷ es) plain u (zero, k_in, is) =
    subst (PlainUse (DirectoryEntry p ∷ es)) is (of_directory p (first_entry (DirectoryEntry p) es))
plain_use (DirectoryEntry p ∷ es) plain u (suc k, k_in, is) =
    wider u (DirectoryEntry p) es (plain_use es (rest_plain _ es plain) u (k, omega arith, is))
plain_use (FileEntry p ∷ es) plain u (zero, k_in, is) =
    subst (PlainUse (FileEntry p ∷ es)) is (of_file p (first_entry (FileEntry p) es))
plain_use (FileEntry p ∷ es) plain u (suc k, k_in, is) =
    wider u (FileEntry p) es (plain_use es (rest_plain _ es plain) u (k, omega arith, is))
plain_use (SymlinkEntry p t ∷ es) plain u c =
    absurd (let h : false ≡ true = plain 0 (OtherEntry []) (omega arith) in cc)
plain_use (HardLinkEntry p t ∷ es) plain u c =
    absurd (let h : false ≡ true = plain 0 (OtherEntry []) (omega arith) in cc)
plain_use (OtherEntry p ∷ es) plain u c =
    absurd (let h : false ≡ true = plain 0 (OtherEntry []) (omega arith) in cc)

-- two such uses do not clash
plain_free : (entries : List EntryValue) → IsOrdinary entries → (u v : Use) → PlainUse entries u
    → PlainUse entries v → Clash u v → ⊥
plain_free entries h _ v (of_directory p c) d (◌⊎◌.inl x) = let e : true ≡ false = x.leaf in cc
plain_free entries h _ v (of_directory p c) d (◌⊎◌.inr x) = let e : false ≡ true = x.clash in cc
plain_free entries h _ v (of_file p c) d (◌⊎◌.inr x) = let e : false ≡ true = x.clash in cc
plain_free entries h _ _ (of_file p c) (of_directory q d) (◌⊎◌.inl x) =
    h.leaf p (DirectoryEntry q) x.name x.more c d x.below
plain_free entries h _ _ (of_file p c) (of_file q d) (◌⊎◌.inl x) =
    h.leaf p (FileEntry q) x.name x.more c d x.below

-- ordinary entries are accepted, and no link of theirs leads out
pub ordinary_accepted : (entries : List EntryValue) → IsOrdinary entries
    → Accepted entries × Closed entries
ordinary_accepted entries h =
    let at : (k : ℕ) (d : Use) → k < length (all_uses entries)
    → PlainUse entries (slice_index_or (all_uses entries) k d) =
    λ k d k_in. plain_use entries h.plain (slice_index_or (all_uses entries) k d) (
      k,
      k_in,
      get_or_default (all_uses entries) k
          (slice_index_or (all_uses entries) k d) d k_in,
    ) in
    let no_link : (p t : List ℕ) → Contains entries (SymlinkEntry p t) → ⊥ =
    λ p t c. (let e : false ≡ true =
    All-contains (λ e. is_plain e ≡ true) entries (SymlinkEntry p t) h.plain c in cc) in (
      record {
        allowed = h.allowed;
        apart = λ j k d before k_in. (
          plain_free entries h _ _ (at j d (omega arith)) (at k d k_in),
          plain_free entries h _ _ (at k d k_in) (at j d (omega arith)),
        );
      },
      record { inside = λ p t c. absurd (no_link p t c) },
    )
