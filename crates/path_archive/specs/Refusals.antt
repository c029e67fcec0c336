-- Which entries are refused, and why.
use Rattle.std.specs.Prelude.{◌≡◌, ◌≢◌, ◌⊎◌, ◌+◌, ℕ, List, [], ◌∷◌, ◌++◌, map, All, AllPairs}
use Rattle.std.specs.Prelude.{Contains, ◌≤◌, Option, Some, None, take}
use Rattle.path_archive.specs.Entries.{EntryValue, Use, UsedAsOther, UsedAsTarget, uses_of}
use Rattle.path_archive.specs.Rule.{AcceptedAt, AreApart, IsAllowedAt, IsBelowLeaf, IsClosedAt}
use Rattle.path_archive.specs.Rule.{IsNamed, IsUsedTwice}
use Rattle.path_archive.specs.Slots.{use_at}
use Rattle.path_archive.specs.declared.level.Level.{Level}
use Rattle.path_archive.specs.declared.refusal.Reason.{Reason}
use Rattle.path_archive.specs.declared.refusal.Reason.TheVariants.{Name, Kind, BelowLeaf}
use Rattle.path_archive.specs.declared.refusal.Reason.TheVariants.{LinkUsedTwice, TargetIsLink}
use Rattle.path_archive.specs.declared.refusal.Reason.TheVariants.{LeadsOut}
use Rattle.path_archive.specs.declared.refusal.Refusal.{Refusal}
use Rattle.path_archive.specs.declared.slot.Slot.{Slot}

-- the uses of an entry, each with the entry's number n
abbrev pub numbered : ℕ → EntryValue → List (ℕ × Use)
numbered n e = map (λ u. (n, u)) (uses_of e)

-- the uses of entries, each with the number of its entry; the first entry's is n
abbrev pub numbered_from : ℕ → List EntryValue → List (ℕ × Use)
numbered_from n [] = []
numbered_from n (e ∷ es) = numbered n e ++ numbered_from (n + 1) es

-- the use at a slot, with the number of its entry
abbrev pub numbered_at : List ℕ → Slot → ℕ × Use
numbered_at records s = (s.entry, use_at records s)

-- the use at a slot of index k is allowed, and isn't marked as one that clashes
abbrev pub Stays : Level → List ℕ → ℕ → Slot → Type 0
Stays level records k s = (s.cause ≡ k) × IsAllowedAt level (use_at records s)

-- v clashes with u, for this reason
pub data ClashesFor (u v : Use) : Reason → Type 0 where
  below : IsBelowLeaf u v → ClashesFor u v BelowLeaf
  target : IsUsedTwice u v → v.used_as ≡ UsedAsTarget → ClashesFor u v TargetIsLink
  twice : IsUsedTwice u v → v.used_as ≢ UsedAsTarget → ClashesFor u v LinkUsedTwice

-- the use can't be allowed at the level, for this reason
pub data ForbiddenFor (level : Level) (u : Use) : Reason → Type 0 where
  name : (IsNamed u → ⊥) → ForbiddenFor level u Name
  kind : u.used_as ≡ UsedAsOther → ForbiddenFor level u Kind
  out : (IsClosedAt level u → ⊥) → ForbiddenFor level u LeadsOut

-- two uses are of two entries, or differ
abbrev pub AreTwo : ℕ × Use → ℕ × Use → Type 0
AreTwo a b = a.0 ≡ b.0 → a.1 ≢ b.1

-- a refusal among these uses is true: a use of its entry isn't allowed, or clashes with another
-- use, which is one of its cause's
pub data IsTrueOf (level : Level) (uses : List (ℕ × Use)) (r : Refusal) : Type 0 where
  forbidden : {u : Use} → Contains uses (r.entry, u) → r.cause ≡ r.entry
      → ForbiddenFor level u r.reason → IsTrueOf level uses r
  clashes : {u v : Use} → Contains uses (r.cause, u) → Contains uses (r.entry, v)
      → AreTwo (r.cause, u) (r.entry, v) → ClashesFor u v r.reason → IsTrueOf level uses r

-- a refusal names the entry with number n
abbrev pub IsRefused : List Refusal → ℕ → Type 0
IsRefused refusals n = Contains (map (λ r. r.entry) refusals) n

-- the number n is that of the refused entry or of a later one
abbrev pub IsFrom : Option Refusal → ℕ → Type 0
IsFrom None n = ⊥
IsFrom (Some r) n = r.entry ≤ n

-- the use is allowed, unless P holds of its entry's number
abbrev pub IsSettled : Level → (ℕ → Type 0) → ℕ × Use → Type 0
IsSettled level P a = P a.0 ⊎ IsAllowedAt level a.1

-- the uses are apart, unless P holds of one of their entries' numbers
abbrev pub AreSettled : (ℕ → Type 0) → ℕ × Use → ℕ × Use → Type 0
AreSettled P a b = P a.0 ⊎ (P b.0 ⊎ AreApart a.1 b.1)

-- the entries are accepted but for those of whose numbers P holds
pub record Settles (level : Level) (P : ℕ → Type 0) (uses : List (ℕ × Use)) : Type 0 where
  pub allowed : All (IsSettled level P) uses
  pub apart : AllPairs (AreSettled P) uses

-- the refusals are true, and what is not refused is accepted
pub record Decides (level : Level) (uses : List (ℕ × Use)) (refusals : List Refusal)
    : Type 0 where
  pub each : All (IsTrueOf level uses) refusals
  pub others : Settles level (IsRefused refusals) uses

-- the refusal is true, and the entries before the refused one are accepted
pub record IsFirst (level : Level) (entries : List EntryValue) (r : Refusal) : Type 0 where
  pub is_true : IsTrueOf level (numbered_from 0 entries) r
  pub before : AcceptedAt level (take r.entry entries)
