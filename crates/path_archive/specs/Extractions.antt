-- What extractors do.
use Rattle.std.specs.Prelude.{◌≡◌, ◌⊎◌, ℕ, Bool, false, ◌&&◌, not, List, [], ◌∷◌, ◌++◌, Contains}
use Rattle.unix_path.specs.Parts.{Value}
use Rattle.path_archive.specs.Entries.{EntryValue, SymlinkEntry, HardLinkEntry, path_of, is_symlink}
use Rattle.path_archive.specs.Entries.{components}
use Rattle.path_archive.specs.FileSystems.{Place, Node, Absent, Directory, File, Link, FileSystem}
use Rattle.path_archive.specs.FileSystems.{Leads}

-- an extractor may reach this place for the entry e: the place of its path, or of a prefix of it. A
-- symbolic link's own path is followed at its end only if the extractor is `careless`
pub data Reaches (careless : Bool) (fs : FileSystem) (top : Place) : EntryValue → Place
    → Type 0 where
  way : {e : EntryValue} {q : Place} (front : List Value) (v : Value) (more : List Value)
      → components (path_of e) ≡ front ++ v ∷ more → Leads fs top front q
      → Reaches careless fs top e q
  end : {e : EntryValue} {q : Place}
      → (is_symlink e && not careless) ≡ false → Leads fs top (components (path_of e)) q
      → Reaches careless fs top e q
  unfollowed : {e : EntryValue} {q : Place} (front : List Value) (v : Value)
      → components (path_of e) ≡ front ++ v ∷ [] → Leads fs top front q
      → Reaches careless fs top e (q ++ v ∷ [])

-- for the entry e, an extractor may leave this at the place q: what is there already, nothing, a
-- directory, a new file; for a symbolic link's own path the link, or for a hard link what its
-- target leads to
pub data Puts (careless : Bool) (fs : FileSystem) (top : Place)
    : EntryValue → Place → Node → Type 0 where
  keeps : {e : EntryValue} {q : Place}
      → Reaches careless fs top e q → Puts careless fs top e q (fs.at q)
  removes : {e : EntryValue} {q : Place}
      → Reaches careless fs top e q → Puts careless fs top e q Absent
  makes_directory : {e : EntryValue} {q : Place} {m : ℕ}
      → Reaches careless fs top e q → Puts careless fs top e q (Directory m)
  makes_file : {e : EntryValue} {q : Place} {i : ℕ} → Reaches careless fs top e q
      → ((p : Place) → fs.at p ≡ File i → ⊥) → Puts careless fs top e q (File i)
  makes_link : {p t : List ℕ} {q : Place} (front : List Value) (v : Value)
      → components p ≡ front ++ v ∷ [] → Leads fs top front q
      → Puts careless fs top (SymlinkEntry p t) (q ++ v ∷ []) (Link t)
  makes_hard_link : {p t : List ℕ} {q s : Place}
      → Leads fs top (components p) q → Leads fs top (components t) s
      → Puts careless fs top (HardLinkEntry p t) q (fs.at s)

-- one action for one of the entries: one place may change, and so may the file that was there and
-- the file that is there now
pub record Acts (careless : Bool) (entries : List EntryValue) (top : Place) (old new : FileSystem)
    : Type 0 where
  pub entry : EntryValue
  pub place : Place
  pub listed : Contains entries entry
  pub puts : Puts careless old top entry place (new.at place)
  pub places : (p : Place) → (p ≡ place) ⊎ (new.at p ≡ old.at p)
  pub files : (i : ℕ) → (old.at place ≡ File i → ⊥) → (new.at place ≡ File i → ⊥)
      → new.file i ≡ old.file i

-- any number of actions, for any of the entries in any order
pub data Extracts (careless : Bool) (entries : List EntryValue) (top : Place) (old : FileSystem)
    : FileSystem → Type 0 where
  nothing : Extracts careless entries top old old
  then : {mid new : FileSystem} → Extracts careless entries top old mid
      → Acts careless entries top mid new → Extracts careless entries top old new
