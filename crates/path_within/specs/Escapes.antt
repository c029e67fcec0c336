-- Paths that go above where they start, lexically, and paths with a root or a `..`. (Go's
-- `filepath.IsLocal` is the opposite of `Escapes`, except that it is false for the empty path,
-- which does not escape.)
use Rattle.std.specs.Prelude.{◌⊎◌, ◌<◌, ◌||◌, ℕ, Bool, true, false, List, [], ◌∷◌, count_by}
use Rattle.std.specs.Prelude.{is_some, take}
use Rattle.std.specs.List.{list_any}
use Rattle.unix_path.specs.Names.{name_of}
use Rattle.unix_path.specs.Parts.{Value, RootDir, ParentDir}
use Rattle.unix_path.specs.Prefixes.{IsPrefixOf}

-- the component is the root
abbrev pub is_root : Value → Bool
is_root RootDir = true
is_root _ = false

-- the component is a name
abbrev pub is_name : Value → Bool
is_name v = is_some (name_of v)

-- the component is `..`
abbrev pub is_parent_dir : Value → Bool
is_parent_dir ParentDir = true
is_parent_dir _ = false

-- some prefix of these components has more `..` than names
abbrev pub GoesAbove : List Value → Type 0
GoesAbove vs = (n : ℕ) × (count_by is_name (take n vs) < count_by is_parent_dir (take n vs))

-- these components begin with a root, or some prefix of them has more `..` than names
abbrev pub Escapes : List Value → Type 0
Escapes vs = IsPrefixOf (RootDir ∷ []) vs ⊎ GoesAbove vs

-- the root or a `..` is among the components
abbrev pub has_root_or_parent_dir : List Value → Bool
has_root_or_parent_dir vs = list_any (λ v. is_root v || is_parent_dir v) vs
