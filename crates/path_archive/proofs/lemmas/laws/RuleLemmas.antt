-- What the rule says of symbolic links: no other use is at or below a link's path.
use Rattle.std.specs.Prelude.{◌≡◌, ◌⊎◌, ◌<◌, ℕ, suc, zero, Bool, true, false, List, [], ◌∷◌}
use Rattle.std.specs.Prelude.{Contains, AllPairs, length, slice_index_or}
use Rattle.std.proofs.Common.{sym, ap, ◌∙◌, subst, refl, arith, inl, inr}
use Rattle.std.proofs.lemmas.Bool.{cases_lt}
use Rattle.std.proofs.lemmas.List.{append-nil, get_or_default}
use Rattle.std.proofs.lemmas.List.Elements.{All-contains, Contains-append_left}
use Rattle.std.proofs.lemmas.List.Elements.{Contains-append_right}
use Rattle.unix_path.specs.Parts.{Value}
use Rattle.unix_path.specs.Prefixes.{IsPrefixOf}
use Rattle.path_within.specs.Resolved.{AllNames}
use Rattle.path_archive.specs.Entries.{EntryValue, DirectoryEntry, FileEntry, SymlinkEntry}
use Rattle.path_archive.specs.Entries.{HardLinkEntry, OtherEntry, UsedAs, UsedAsSymlink}
use Rattle.path_archive.specs.Entries.{UsedAsDirectory, UsedAsFile, UsedAsHardLink, UsedAsTarget}
use Rattle.path_archive.specs.Entries.{UsedAsOther, Use, use_as, link_use, uses_of, all_uses}
use Rattle.path_archive.specs.Entries.{components}
use Rattle.path_archive.specs.Entries.{is_symlink, path_of}
use Rattle.path_archive.specs.Rule.{Accepted, IsAllowed, Clash, AreApart}

-- the components of the paths that are used for an entry
pub data Uses : EntryValue → List Value → Type 0 where
  path : {e : EntryValue} → Uses e (components (path_of e))
  target : {p t : List ℕ} → Uses (HardLinkEntry p t) (components t)

-- the use of an entry's own path
abbrev pub own_use : EntryValue → Use
own_use (DirectoryEntry p) = use_as UsedAsDirectory p
own_use (FileEntry p) = use_as UsedAsFile p
own_use (SymlinkEntry p t) = link_use p t
own_use (HardLinkEntry p t) = use_as UsedAsHardLink p
own_use (OtherEntry p) = use_as UsedAsOther p

-- the path is a symbolic link's
abbrev is_symlinks : UsedAs → Bool
is_symlinks UsedAsSymlink = true
is_symlinks _ = false

-- what is used for an entry is used for the list
pub entry_use : (entries : List EntryValue) (e : EntryValue) (u : Use) → Contains entries e
    → Contains (uses_of e) u → Contains (all_uses entries) u
entry_use [] e u c h = absurd (omega (arith, c.1))
entry_use (x ∷ xs) e u (zero, k_in, is) h =
    Contains-append_left (uses_of x) (all_uses xs) u
    (subst (λ y. Contains (uses_of y) u) (sym is) h)
entry_use (x ∷ xs) e u (suc k, k_in, is) h =
    Contains-append_right (uses_of x) (all_uses xs) u
    (entry_use xs e u (k, omega arith, is) h)

-- the first use
first_of : (u : Use) (us : List Use) → Contains (u ∷ us) u
first_of u us = (0, omega arith, refl)

-- an entry's own path is the first that is used for it
pub own_listed : (e : EntryValue) → Contains (uses_of e) (own_use e)
own_listed (DirectoryEntry p) = first_of (use_as UsedAsDirectory p) []
own_listed (FileEntry p) = first_of (use_as UsedAsFile p) []
own_listed (SymlinkEntry p t) = first_of (link_use p t) []
own_listed (HardLinkEntry p t) = first_of (use_as UsedAsHardLink p) (use_as UsedAsTarget t ∷ [])
own_listed (OtherEntry p) = first_of (use_as UsedAsOther p) []

-- a hard link's target is used for it
target_listed : (p t : List ℕ) → Contains (uses_of (HardLinkEntry p t)) (use_as UsedAsTarget t)
target_listed p t = (1, omega arith, refl)

-- the use of these components for an entry
pub record UseOf (entries : List EntryValue) (e : EntryValue) (q : List Value) : Type 0 where
  pub it : Use
  pub listed : Contains (all_uses entries) it
  pub is : components it.path ≡ q
  pub link : is_symlinks it.used_as ≡ true → is_symlink e ≡ true

-- a symbolic link's path is used for one alone
own_link : (e : EntryValue) → is_symlinks (own_use e).used_as ≡ true → is_symlink e ≡ true
own_link (DirectoryEntry p) h = h
own_link (FileEntry p) h = h
own_link (SymlinkEntry p t) h = refl
own_link (HardLinkEntry p t) h = h
own_link (OtherEntry p) h = h

-- the path of an entry's own use
own_path : (e : EntryValue) → (own_use e).path ≡ path_of e
own_path (DirectoryEntry p) = refl
own_path (FileEntry p) = refl
own_path (SymlinkEntry p t) = refl
own_path (HardLinkEntry p t) = refl
own_path (OtherEntry p) = refl

use_of : (entries : List EntryValue) (e : EntryValue) (q : List Value) → Contains entries e
    → Uses e q → UseOf entries e q
use_of entries e q c path = record {
  it = own_use e;
  listed = entry_use entries e (own_use e) c (own_listed e);
  is = ap components (own_path e);
  link = own_link e;
}
use_of entries e q c (target {p = p} {t = t}) = record {
  it = use_as UsedAsTarget t;
  listed = entry_use entries (HardLinkEntry p t) (use_as UsedAsTarget t) c (target_listed p t);
  is = refl;
  link = λ h. h;
}

-- the components of each path that is used are names
pub used_names : (entries : List EntryValue) → Accepted entries → (e : EntryValue)
    (q : List Value) → Contains entries e → Uses e q → AllNames q
used_names entries ok e q c u =
    let used = use_of entries e q c u in
    subst AllNames used.is
    (All-contains IsAllowed (all_uses entries) used.it ok.allowed used.listed).named.names

-- the default of a read within the list doesn't matter
read : (us : List Use) (i : ℕ) (u d : Use) → i < length us → slice_index_or us i u ≡ u
    → slice_index_or us i d ≡ u
read us i u d i_in is = get_or_default us i d u i_in ∙ is

-- two uses of a list are one, or the second can be with the first
uses_apart : (us : List Use) (u v : Use) → AllPairs AreApart us → Contains us u → Contains us v
    → (u ≡ v) ⊎ (Clash u v → ⊥)
uses_apart us u v apart (i, i_in, i_is) (j, j_in, j_is) =
    elim (cases_lt i j) [
      | ◌⊎◌.inl before ↦ inr (subst (λ x. Clash x v → ⊥) i_is
          (subst (λ y. Clash (slice_index_or us i u) y → ⊥) (read us j v u j_in j_is)
          (apart i j u before j_in).0))
      | ◌⊎◌.inr not_before ↦ elim (cases_lt j i) [
        | ◌⊎◌.inl after ↦ inr (subst (λ x. Clash x v → ⊥) i_is
            (subst (λ y. Clash (slice_index_or us i u) y → ⊥) (read us j v u j_in j_is)
            (apart j i u after i_in).1))
        | ◌⊎◌.inr not_after ↦
            let same : i ≡ j = omega arith in
            inl (sym i_is ∙ ap (λ k. slice_index_or us k u) same ∙ read us j v u j_in j_is)
      ]
    ]

-- what clashes with a symbolic link's path
link_clash : (p t : List ℕ) (v : Use) → IsPrefixOf (components p) (components v.path)
    → Clash (link_use p t) v
link_clash p t v ([], same) =
    inr record { same = sym (append-nil (components p)) ∙ same; clash = refl }
link_clash p t v (name ∷ more, at) =
    inl record { leaf = refl; name = name; more = more; below = at }

-- a used path at or below the path of a symbolic link is the link's own
pub used_apart : (entries : List EntryValue) → Accepted entries → (p t : List ℕ)
    (e : EntryValue) (q : List Value) → Contains entries (SymlinkEntry p t) → Contains entries e
    → Uses e q → IsPrefixOf (components p) q → (is_symlink e ≡ true) × (components p ≡ q)
used_apart entries ok p t e q in_list c u h =
    let link : Use = link_use p t in
    let link_listed = entry_use entries (SymlinkEntry p t) link in_list
    (own_listed (SymlinkEntry p t)) in
    let used = use_of entries e q c u in
    let begins : IsPrefixOf (components p) (components used.it.path) =
    subst (λ x. IsPrefixOf (components p) x) (sym used.is) h in
    elim (uses_apart (all_uses entries) link used.it ok.apart link_listed used.listed) [
      | ◌⊎◌.inl same ↦ (
        used.link (ap (λ u. is_symlinks u.used_as) (sym same)),
        ap (λ u. components u.path) same ∙ used.is,
      )
      | ◌⊎◌.inr free ↦ absurd (free (link_clash p t used.it begins))
    ]
