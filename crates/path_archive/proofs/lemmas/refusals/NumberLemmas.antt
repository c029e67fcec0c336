-- Uses with the numbers of their entries: no two are the same.
use Rattle.std.proofs.Common.{◌≡◌, ◌⊎◌, ◌≤◌, ◌<◌, ◌+◌, ℕ, suc, zero, List, [], ◌∷◌, ◌++◌, map, refl}
use Rattle.std.proofs.Common.{sym, ap, ap₂, ◌∙◌, arith, length}
use Rattle.std.specs.Prelude.{All, AllPairs, Contains}
use Rattle.std.proofs.lemmas.List.{append_assoc, map-append}
use Rattle.std.proofs.lemmas.List.Elements.{All-append, All-weaker, Contains-append_cases}
use Rattle.std.proofs.lemmas.List.Kept.{AllPairs-cons}
use Rattle.path_archive.specs.Entries.{EntryValue, DirectoryEntry, FileEntry, SymlinkEntry}
use Rattle.path_archive.specs.Entries.{HardLinkEntry, OtherEntry, UsedAsDirectory, UsedAsFile}
use Rattle.path_archive.specs.Entries.{UsedAsHardLink, UsedAsOther, UsedAsSymlink, UsedAsTarget}
use Rattle.path_archive.specs.Entries.{Use, all_uses, link_use, use_as, uses_of}
use Rattle.path_archive.specs.Refusals.{AreTwo, numbered, numbered_from}
use Rattle.path_archive.specs.Rule.{Closed, StaysInside}
use Rattle.path_archive.proofs.lemmas.marks.PassLemmas.{rank}

-- the uses without the numbers
pub uses_numbered : (n : ℕ) (es : List EntryValue) → map (λ (a : ℕ × Use). a.1) (numbered_from n es)
    ≡ all_uses es
uses_numbered n [] = refl
uses_numbered n (e ∷ es) =
    map-append (λ (a : ℕ × Use). a.1) (numbered n e) (numbered_from (n + 1) es)
    ∙ ap₂ (λ us vs. us ++ vs) (one e) (uses_numbered (n + 1) es)
  where
    one : (e : EntryValue) → map (λ (a : ℕ × Use). a.1) (numbered n e) ≡ uses_of e
    one (DirectoryEntry p) = refl
    one (FileEntry p) = refl
    one (SymlinkEntry p t) = refl
    one (HardLinkEntry p t) = refl
    one (OtherEntry p) = refl

-- what holds of one element
all_one : {X : Type 0} (P : X → Type 0) (x : X) → P x → All P (x ∷ [])
all_one P x h zero d k_in = h
all_one P x h (suc k) d k_in = absurd (omega arith)

-- what holds of two elements
all_two : {X : Type 0} (P : X → Type 0) (x y : X) → P x → P y → All P (x ∷ y ∷ [])
all_two P x y h g zero d k_in = h
all_two P x y h g (suc zero) d k_in = g
all_two P x y h g (suc (suc k)) d k_in = absurd (omega arith)

-- the first number is the lowest
numbers_low : (n : ℕ) (es : List EntryValue) → All (λ a. n ≤ a.0) (numbered_from n es)
numbers_low n [] = λ k d k_in. absurd (omega arith)
numbers_low n (e ∷ es) =
    All-append (λ a. n ≤ a.0) (numbered n e) (numbered_from (n + 1) es) (one e)
    (All-weaker (λ (a : ℕ × Use). n + 1 ≤ a.0) (λ a. n ≤ a.0) (λ a h. omega arith)
    (numbered_from (n + 1) es) (numbers_low (n + 1) es))
  where
    one : (e : EntryValue) → All (λ a. n ≤ a.0) (numbered n e)
    one (DirectoryEntry p) = all_one (λ a. n ≤ a.0) _ (omega arith)
    one (FileEntry p) = all_one (λ a. n ≤ a.0) _ (omega arith)
    one (SymlinkEntry p t) = all_one (λ a. n ≤ a.0) _ (omega arith)
    one (HardLinkEntry p t) = all_two (λ a. n ≤ a.0) _ _ (omega arith) (omega arith)
    one (OtherEntry p) = all_one (λ a. n ≤ a.0) _ (omega arith)

-- each number is below the one after the last
pub numbers_high : (n : ℕ) (es : List EntryValue)
    → All (λ a. a.0 < n + length es) (numbered_from n es)
numbers_high n [] = λ k d k_in. absurd (omega arith)
numbers_high n (e ∷ es) =
    All-append (λ a. a.0 < n + suc (length es)) (numbered n e) (numbered_from (n + 1) es) (one e)
    (All-weaker (λ (a : ℕ × Use). a.0 < n + 1 + length es) (λ a. a.0 < n + suc (length es))
    (λ a h. omega arith) (numbered_from (n + 1) es) (numbers_high (n + 1) es))
  where
    one : (e : EntryValue) → All (λ a. a.0 < n + suc (length es)) (numbered n e)
    one (DirectoryEntry p) = all_one (λ a. a.0 < n + suc (length es)) _ (omega arith)
    one (FileEntry p) = all_one (λ a. a.0 < n + suc (length es)) _ (omega arith)
    one (SymlinkEntry p t) = all_one (λ a. a.0 < n + suc (length es)) _ (omega arith)
    one (HardLinkEntry p t) =
        all_two (λ a. a.0 < n + suc (length es)) _ _ (omega arith) (omega arith)
    one (OtherEntry p) = all_one (λ a. a.0 < n + suc (length es)) _ (omega arith)

-- the uses of entries in two parts
pub numbered_append : (n : ℕ) (xs ys : List EntryValue)
    → numbered_from n (xs ++ ys) ≡ numbered_from n xs ++ numbered_from (n + length xs) ys
numbered_append n [] ys = ap (λ k. numbered_from k ys) (omega arith)
numbered_append n (x ∷ xs) ys =
    let index : n + 1 + length xs ≡ n + suc (length xs) = omega arith in
    ap (λ us. numbered n x ++ us) (numbered_append (n + 1) xs ys
    ∙ ap (λ k. numbered_from (n + 1) xs ++ numbered_from k ys) index)
    ∙ sym (append_assoc (numbered n x) (numbered_from (n + 1) xs)
    (numbered_from (n + suc (length xs)) ys))

-- a use of an entry and those of later entries are two
later_two : (n : ℕ) (u : Use) (es : List EntryValue)
    → All (AreTwo (n, u)) (numbered_from (n + 1) es)
later_two n u es =
    All-weaker (λ (a : ℕ × Use). n + 1 ≤ a.0) (AreTwo (n, u)) (λ a h same. absurd (omega arith))
    (numbered_from (n + 1) es) (numbers_low (n + 1) es)

-- a hard link's path and its target are two uses
kinds_differ : (p t : List ℕ) → use_as UsedAsHardLink p ≡ use_as UsedAsTarget t → ⊥
kinds_differ p t is =
    let ranks : rank UsedAsHardLink ≡ rank UsedAsTarget = ap (λ (u : Use). rank u.used_as) is in
    omega arith

-- one more use in front
first_two : (n : ℕ) (u : Use) (es : List EntryValue) → AllPairs AreTwo (numbered_from (n + 1) es)
    → AllPairs AreTwo ((n, u) ∷ numbered_from (n + 1) es)
first_two n u es rest = AllPairs-cons AreTwo (n, u) (numbered_from (n + 1) es)
    (later_two n u es) rest

-- no two uses are one
pub numbered_two : (n : ℕ) (es : List EntryValue) → AllPairs AreTwo (numbered_from n es)
numbered_two n [] = λ i j d before j_in. absurd (omega arith)
numbered_two n (DirectoryEntry p ∷ es) =
    first_two n (use_as UsedAsDirectory p) es (numbered_two (n + 1) es)
numbered_two n (FileEntry p ∷ es) =
    first_two n (use_as UsedAsFile p) es (numbered_two (n + 1) es)
numbered_two n (SymlinkEntry p t ∷ es) =
    first_two n (link_use p t) es (numbered_two (n + 1) es)
numbered_two n (OtherEntry p ∷ es) =
    first_two n (use_as UsedAsOther p) es (numbered_two (n + 1) es)
numbered_two n (HardLinkEntry p t ∷ es) =
    let u : Use = use_as UsedAsHardLink p in
    let v : Use = use_as UsedAsTarget t in
    AllPairs-cons AreTwo (n, u) ((n, v) ∷ numbered_from (n + 1) es)
    (All-append (AreTwo (n, u)) ((n, v) ∷ []) (numbered_from (n + 1) es)
    (all_one (AreTwo (n, u)) (n, v) (λ same. kinds_differ p t)) (later_two n u es))
    (first_two n v es (numbered_two (n + 1) es))

-- a use of another rank is no symbolic link's
differ : (v u : Use) → v ≡ u → u.used_as ≡ UsedAsSymlink → 0 < rank v.used_as → ⊥
differ v u is link some =
    let e : rank v.used_as ≡ 0 = ap (λ (x : Use). rank x.used_as) is ∙ ap rank link in omega arith

-- a use of one entry as a symbolic link's is the link's
link_one : (e : EntryValue) (u : Use) → Contains (uses_of e) u → u.used_as ≡ UsedAsSymlink
    → e ≡ SymlinkEntry u.path u.target
link_one (SymlinkEntry p t) u (zero, k_in, is) link =
    ap (λ (v : Use). SymlinkEntry v.path v.target) is
link_one (SymlinkEntry p t) u (suc k, k_in, is) link = absurd (omega arith)
link_one (DirectoryEntry p) u (zero, k_in, is) link = absurd (differ _ _ is link (omega arith))
link_one (DirectoryEntry p) u (suc k, k_in, is) link = absurd (omega arith)
link_one (FileEntry p) u (zero, k_in, is) link = absurd (differ _ _ is link (omega arith))
link_one (FileEntry p) u (suc k, k_in, is) link = absurd (omega arith)
link_one (OtherEntry p) u (zero, k_in, is) link = absurd (differ _ _ is link (omega arith))
link_one (OtherEntry p) u (suc k, k_in, is) link = absurd (omega arith)
link_one (HardLinkEntry p t) u (zero, k_in, is) link = absurd (differ _ _ is link (omega arith))
link_one (HardLinkEntry p t) u (suc zero, k_in, is) link =
    absurd (differ _ _ is link (omega arith))
link_one (HardLinkEntry p t) u (suc (suc k), k_in, is) link = absurd (omega arith)

-- a symbolic link's use among those of entries is inside if the links are
pub link_inside : (entries : List EntryValue) → Closed entries → (u : Use)
    → Contains (all_uses entries) u → u.used_as ≡ UsedAsSymlink → StaysInside u.path u.target
link_inside entries closed u c link =
    closed.inside u.path u.target (link_listed entries u c link)
  where
    link_listed : (es : List EntryValue) (u : Use) → Contains (all_uses es) u
        → u.used_as ≡ UsedAsSymlink → Contains es (SymlinkEntry u.path u.target)
    link_listed [] u c link = absurd (omega (arith, c.1))
    link_listed (e ∷ es) u c link = elim (Contains-append_cases (uses_of e) (all_uses es) u c) [
      | ◌⊎◌.inl own ↦ (0, omega arith, link_one e u own link)
      | ◌⊎◌.inr more ↦
          let rest = link_listed es u more link in (
            suc rest.0,
            let low = rest.1 in omega arith,
            rest.2,
          )
    ]
