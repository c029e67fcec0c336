-- Laws of queries of a path (Rust's `Path::parent`, `Path::ancestors`, `Path::file_name`,
-- `Path::file_stem`, `Path::extension`).
use Rattle.std.specs.Prelude.{◌≡◌, ℕ, List, [], ◌∷◌, ◌++◌, Option, Some, None, All}
use Rattle.unix_path.specs.Parts.{dot, values, SameValues}
use Rattle.unix_path.specs.Joins.{join_of}
use Rattle.unix_path.specs.Names.{file_name_of, stem_of, extension_of, split_name}
use Rattle.unix_path.specs.Parents.{parent_of, ancestors_of}
use Rattle.unix_path.specs.Prefixes.{IsPrefixOf}
use Rattle.unix_path.specs.Order.{IsBefore}

-- a stem, followed by a dot and the extension if there is one
abbrev pub name_from_stem : List ℕ → Option (List ℕ) → List ℕ
name_from_stem stem None = stem
name_from_stem stem (Some extension) = stem ++ dot ∷ extension

-- a name is its stem, followed by a dot and its extension if it has one
abbrev pub NameFromStem : Type 0
NameFromStem = (name : List ℕ) → name_from_stem (split_name name).0 (split_name name).1 ≡ name

-- if a path has a stem, its file name is this stem, followed by a dot and the extension if it has
-- one
abbrev pub FileNameFromStem : Type 0
FileNameFromStem =
    (s stem : List ℕ) → stem_of (values s) ≡ Some stem
    → file_name_of (values s) ≡ Some (name_from_stem stem (extension_of (values s)))

-- if a path has a parent, the parent is before the path in the order
abbrev pub ParentIsBefore : Type 0
ParentIsBefore =
    (s parent : List ℕ) → parent_of s ≡ Some parent → IsBefore (values parent) (values s)

-- if a path has a parent and a file name, the parent joined with the file name is equal to the path
abbrev pub ParentJoinsName : Type 0
ParentJoinsName =
    (s parent name : List ℕ) → parent_of s ≡ Some parent → file_name_of (values s) ≡ Some name
    → SameValues (join_of parent name) s

-- if a path has no parent, its only ancestor is the path itself
abbrev pub AncestorsEnd : Type 0
AncestorsEnd = (s : List ℕ) → parent_of s ≡ None → ancestors_of s ≡ s ∷ []

-- if a path has a parent, its ancestors are the path itself and the ancestors of the parent
abbrev pub AncestorsStep : Type 0
AncestorsStep =
    (s parent : List ℕ) → parent_of s ≡ Some parent → ancestors_of s ≡ s ∷ ancestors_of parent

-- a path's bytes begin with the bytes of each ancestor
abbrev pub AncestorsArePrefixes : Type 0
AncestorsArePrefixes = (s : List ℕ) → All (λ prefix. IsPrefixOf prefix s) (ancestors_of s)
