-- File systems, as far as the extraction of archives needs them.
use Rattle.std.specs.Prelude.{◌≡◌, ◌-◌, ℕ, List, [], ◌∷◌, ◌++◌, length, take}
use Rattle.unix_path.specs.Parts.{Value, RootDir, ParentDir, Normal}
use Rattle.unix_path.specs.Prefixes.{IsPrefixOf}
use Rattle.path_archive.specs.Entries.{components}

-- a place in a file system: the names that lead to it from the root, none of which is a symbolic
-- link's
abbrev pub Place : Type 0
Place = List Value

-- what is at a place: nothing, a directory with this metadata, the file with this number, or a
-- symbolic link with this target
pub data Node : Type 0 where
  Absent : Node
  Directory : ℕ → Node
  File : ℕ → Node
  Link : List ℕ → Node

-- what is at each place, and the contents and metadata of the file with each number. A file with
-- several hard links is at several places.
pub record FileSystem : Type 0 where
  pub at : Place → Node
  pub file : ℕ → List ℕ

-- the directory that contains this place; the root's is the root
abbrev pub parent : Place → Place
parent p = take (length p - 1) p

-- these components lead from the directory `p` to a place, as in path_resolution(7), in a file
-- system that doesn't change meanwhile, and in which names are equal only if their bytes are. A
-- link at the end is followed or not. No directory has to exist, and any number of links is
-- followed, so there are more of these than a system makes.
pub data Leads (fs : FileSystem) : Place → List Value → Place → Type 0 where
  here : {p : Place} → Leads fs p [] p
  root : {p q : Place} {vs : List Value} → Leads fs [] vs q → Leads fs p (RootDir ∷ vs) q
  up : {p q : Place} {vs : List Value} → Leads fs (parent p) vs q → Leads fs p (ParentDir ∷ vs) q
  last : {p : Place} {n : List ℕ} → Leads fs p (Normal n ∷ []) (p ++ Normal n ∷ [])
  down : {p q : Place} {n : List ℕ} {vs : List Value}
      → ((t : List ℕ) → fs.at (p ++ Normal n ∷ []) ≡ Link t → ⊥)
      → Leads fs (p ++ Normal n ∷ []) vs q → Leads fs p (Normal n ∷ vs) q
  link : {p q : Place} {n : List ℕ} {vs : List Value} (t : List ℕ)
      → fs.at (p ++ Normal n ∷ []) ≡ Link t
      → Leads fs p (components t ++ vs) q → Leads fs p (Normal n ∷ vs) q

-- `top` is a directory with nothing in it
pub record IsEmpty (top : Place) (fs : FileSystem) : Type 0 where
  pub directory : (m : ℕ) × (fs.at top ≡ Directory m)
  pub below : (v : Value) (more : List Value) → fs.at (top ++ v ∷ more) ≡ Absent

-- at each place that is neither `top` nor below it is what was there, and if that is a file, the
-- file is unchanged
pub record SameOutside (top : Place) (old new : FileSystem) : Type 0 where
  pub places : (p : Place) → (IsPrefixOf top p → ⊥) → new.at p ≡ old.at p
  pub files : (p : Place) (i : ℕ) → (IsPrefixOf top p → ⊥) → old.at p ≡ File i
      → new.file i ≡ old.file i
