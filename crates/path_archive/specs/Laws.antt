-- The laws of accepted entries.
use Rattle.std.specs.Prelude.{◌≡◌, Bool, true, ℕ, List, ◌∷◌, ◌++◌, All, Contains}
use Rattle.unix_path.specs.Parts.{Value}
use Rattle.unix_path.specs.Prefixes.{IsPrefixOf}
use Rattle.path_within.specs.Resolved.{AllNames}
use Rattle.path_archive.specs.Entries.{EntryValue, FileEntry, all_uses, components, is_plain}
use Rattle.path_archive.specs.Entries.{path_of}
use Rattle.path_archive.specs.Extractions.{Extracts}
use Rattle.path_archive.specs.FileSystems.{Place, FileSystem, Leads, IsEmpty, SameOutside}
use Rattle.path_archive.specs.Rule.{Accepted, Closed, IsAllowed}

-- whatever an extractor does for accepted entries below an empty directory, nothing outside
-- changes; for a careless one no link may lead out
abbrev pub AcceptedStaysInside : Type 0
AcceptedStaysInside =
    (careless : Bool) (entries : List EntryValue) (top : Place) (old new : FileSystem)
    → Accepted entries → (careless ≡ true → Closed entries)
    → IsEmpty top old → Extracts careless entries top old new → SameOutside top old new

-- if no link leads out, then a path of names leads to a place inside at each moment, whichever
-- links it meets
abbrev pub ClosedLeadsInside : Type 0
ClosedLeadsInside =
    (careless : Bool) (entries : List EntryValue) (top q : Place) (old new : FileSystem)
    (path : List Value)
    → Accepted entries → Closed entries → IsEmpty top old
    → Extracts careless entries top old new
    → AllNames path → Leads new top path q → IsPrefixOf top q

-- only directories and files, each with an allowed path, and no path below a file's
pub record IsOrdinary (entries : List EntryValue) : Type 0 where
  pub plain : All (λ e. is_plain e ≡ true) entries
  pub allowed : All IsAllowed (all_uses entries)
  pub leaf : (p : List ℕ) (e : EntryValue) (name : Value) (more : List Value)
      → Contains entries (FileEntry p) → Contains entries e
      → components p ++ name ∷ more ≡ components (path_of e) → ⊥

-- ordinary entries are accepted, in any order, and no link of theirs leads out
abbrev pub OrdinaryIsAccepted : Type 0
OrdinaryIsAccepted = (entries : List EntryValue) → IsOrdinary entries
    → Accepted entries × Closed entries
