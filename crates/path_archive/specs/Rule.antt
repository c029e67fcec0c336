-- The rule by which the entries of an archive are accepted.
use Rattle.std.specs.Prelude.{◌≡◌, ◌≢◌, ◌⊎◌, ℕ, Bool, true, false, List, [], ◌∷◌, ◌++◌, All}
use Rattle.std.specs.Prelude.{AllPairs, Contains}
use Rattle.std.specs.List.{after_last}
use Rattle.unix_path.specs.Parts.{Value, ParentDir, counts, is_slash}
use Rattle.path_within.specs.Below.{has_nul}
use Rattle.path_within.specs.Resolved.{AllNames}
use Rattle.path_archive.specs.Entries.{EntryValue, SymlinkEntry, UsedAs, UsedAsHardLink}
use Rattle.path_archive.specs.Entries.{UsedAsTarget, UsedAsSymlink, UsedAsOther, UsedAsDirectory}
use Rattle.path_archive.specs.Entries.{Use, all_uses, components}
use Rattle.path_archive.specs.FileSystems.{parent}
use Rattle.path_archive.specs.Levels.{asks_closed}
use Rattle.path_archive.specs.declared.level.Level.{Level}

-- the path is a directory's
abbrev pub is_directory : UsedAs → Bool
is_directory UsedAsDirectory = true
is_directory _ = false

-- the last piece of the path is neither empty nor `.`
abbrev pub ends_in_name : List ℕ → Bool
ends_in_name path = counts (after_last is_slash path)

-- the path has only names and no NUL, and ends in a name unless it is a directory's
pub record IsNamed (u : Use) : Type 0 where
  pub names : AllNames (components u.path)
  pub no_nul : has_nul u.path ≡ false
  pub ends : is_directory u.used_as ≡ false → ends_in_name u.path ≡ true

-- the path is of names, and a directory's, a file's or a link's
pub record IsAllowed (u : Use) : Type 0 where
  pub named : IsNamed u
  pub known : u.used_as ≢ UsedAsOther

-- v's path is below u's, and u's isn't a directory's
pub record IsBelowLeaf (u v : Use) : Type 0 where
  pub leaf : is_directory u.used_as ≡ false
  pub name : Value
  pub more : List Value
  pub below : components u.path ++ name ∷ more ≡ components v.path

-- a path can't be used in both ways: as a symbolic link and in any other way or once more, or as a
-- hard link and as the target of a hard link
abbrev pub kinds_clash : UsedAs → UsedAs → Bool
kinds_clash UsedAsSymlink _ = true
kinds_clash UsedAsHardLink UsedAsTarget = true
kinds_clash _ _ = false

-- u and v use one path, in ways that clash
pub record IsUsedTwice (u v : Use) : Type 0 where
  pub same : components u.path ≡ components v.path
  pub clash : kinds_clash u.used_as v.used_as ≡ true

-- v can't be in an archive with u
abbrev pub Clash : Use → Use → Type 0
Clash u v = IsBelowLeaf u v ⊎ IsUsedTwice u v

-- u and v can be in one archive
abbrev pub AreApart : Use → Use → Type 0
AreApart u v = (Clash u v → ⊥) × (Clash v u → ⊥)

-- each path is allowed, and any two are apart
pub record Accepted (entries : List EntryValue) : Type 0 where
  pub allowed : All IsAllowed (all_uses entries)
  pub apart : AllPairs AreApart (all_uses entries)

-- from the directory `here` below the destination, these components do not lead out of it: first
-- come at most as many `..` as `here` has names, and then only names
abbrev pub StaysBelow : List Value → List Value → Type 0
StaysBelow here (ParentDir ∷ vs) = (here ≢ []) × StaysBelow (parent here) vs
StaysBelow here vs = AllNames vs

-- the symbolic link at `path` to `target` doesn't lead out
pub record StaysInside (path target : List ℕ) : Type 0 where
  pub below : StaysBelow (parent (components path)) (components target)
  pub no_nul : has_nul target ≡ false

-- no symbolic link leads out
pub record Closed (entries : List EntryValue) : Type 0 where
  pub inside : (p t : List ℕ) → Contains entries (SymlinkEntry p t) → StaysInside p t

-- what the level asks of the entries
pub record AcceptedAt (level : Level) (entries : List EntryValue) : Type 0 where
  pub accepted : Accepted entries
  pub closed : asks_closed level ≡ true → Closed entries

-- if the level asks for it, a symbolic link doesn't lead out
abbrev pub IsClosedAt : Level → Use → Type 0
IsClosedAt level u = asks_closed level ≡ true → u.used_as ≡ UsedAsSymlink
    → StaysInside u.path u.target

-- what the level asks of one use by itself
pub record IsAllowedAt (level : Level) (u : Use) : Type 0 where
  pub allowed : IsAllowed u
  pub closed : IsClosedAt level u
