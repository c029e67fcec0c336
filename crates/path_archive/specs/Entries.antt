-- The entries of an archive, and the paths that an extractor uses for them.
use Rattle.std.specs.Prelude.{ℕ, Bool, true, false, List, [], ◌∷◌}
use Rattle.std.specs.List.{flat_map}
use Rattle.unix_path.specs.Parts.{Value, values}
use Rattle.path_runs.specs.JoinLaws.{drop_dot}

-- the components of a path or of a link's target, without a leading `.`
unfoldable pub components : List ℕ → List Value
components s = drop_dot (values s)

-- an entry with its path, and a link with its target
pub data EntryValue : Type 0 where
  DirectoryEntry : List ℕ → EntryValue
  FileEntry : List ℕ → EntryValue
  SymlinkEntry : List ℕ → List ℕ → EntryValue
  HardLinkEntry : List ℕ → List ℕ → EntryValue
  OtherEntry : List ℕ → EntryValue

-- the path of an entry
abbrev pub path_of : EntryValue → List ℕ
path_of (DirectoryEntry p) = p
path_of (FileEntry p) = p
path_of (SymlinkEntry p t) = p
path_of (HardLinkEntry p t) = p
path_of (OtherEntry p) = p

-- the entry is a symbolic link
abbrev pub is_symlink : EntryValue → Bool
is_symlink (SymlinkEntry p t) = true
is_symlink _ = false

-- the entry is a directory or a file
abbrev pub is_plain : EntryValue → Bool
is_plain (DirectoryEntry p) = true
is_plain (FileEntry p) = true
is_plain _ = false

-- what a path is used as; `UsedAsTarget` is the target of a hard link
pub data UsedAs : Type 0 where
  UsedAsDirectory : UsedAs
  UsedAsFile : UsedAs
  UsedAsHardLink : UsedAs
  UsedAsTarget : UsedAs
  UsedAsSymlink : UsedAs
  UsedAsOther : UsedAs

-- a path that an extractor uses; with the path of a symbolic link, also the link's target
pub record Use : Type 0 where
  pub used_as : UsedAs
  pub path : List ℕ
  pub target : List ℕ

-- a path that isn't a symbolic link's
abbrev pub use_as : UsedAs → List ℕ → Use
use_as kind path = record { used_as = kind; path = path; target = [] }

-- the path of a symbolic link
abbrev pub link_use : List ℕ → List ℕ → Use
link_use path target = record { used_as = UsedAsSymlink; path = path; target = target }

-- the paths that an extractor uses for an entry: the entry's, and the target of a hard link
abbrev pub uses_of : EntryValue → List Use
uses_of (DirectoryEntry p) = use_as UsedAsDirectory p ∷ []
uses_of (FileEntry p) = use_as UsedAsFile p ∷ []
uses_of (SymlinkEntry p t) = link_use p t ∷ []
uses_of (HardLinkEntry p t) = use_as UsedAsHardLink p ∷ use_as UsedAsTarget t ∷ []
uses_of (OtherEntry p) = use_as UsedAsOther p ∷ []

-- the paths that an extractor uses for these entries, in order
abbrev pub all_uses : List EntryValue → List Use
all_uses entries = flat_map uses_of entries
