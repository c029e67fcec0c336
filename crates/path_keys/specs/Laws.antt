-- Laws of the keys of paths.
use Rattle.std.specs.Prelude.{◌≡◌, ◌↔◌, ◌≤◌, ℕ, ◌+◌, List, [], ◌++◌, length}
use Rattle.unix_path.specs.Joins.{join_of}
use Rattle.unix_path.specs.Order.{values_cmp}
use Rattle.unix_path.specs.Parts.{leading_part, values, SameValues}
use Rattle.unix_path.specs.Prefixes.{IsPrefixOf, stripped_of}
use Rattle.path_keys.specs.Keys.{key_of}
use Rattle.path_keys.specs.Ranges.{bytes_cmp}

-- the keys of two paths are in the order of the paths
abbrev pub KeysInOrder : Type 0
KeysInOrder = (s t : List ℕ)
    → bytes_cmp (key_of (values s)) (key_of (values t)) ≡ values_cmp (values s) (values t)

-- two paths have the same key if and only if they have the same components
abbrev pub KeysTell : Type 0
KeysTell = (s t : List ℕ) → (key_of (values s) ≡ key_of (values t)) ↔ SameValues s t

-- the key of one path is a prefix of the key of another if and only if the components of the first
-- path are a prefix of the components of the other
abbrev pub KeysBegin : Type 0
KeysBegin = (s t : List ℕ)
    → IsPrefixOf (key_of (values s)) (key_of (values t)) ↔ IsPrefixOf (values s) (values t)

-- if a path starts with a base, its key is the key of the base followed by the key of the rest
abbrev pub KeyOfStripped : Type 0
KeyOfStripped = (base s : List ℕ) → IsPrefixOf (values base) (values s)
    → key_of (values s) ≡ key_of (values base) ++ key_of (values (stripped_of s base))

-- the key of a join with a path that has no root and no leading `.` is the key of the first path
-- followed by the key of the second
abbrev pub KeyOfJoin : Type 0
KeyOfJoin = (a b : List ℕ) → leading_part b ≡ []
    → key_of (values (join_of a b)) ≡ key_of (values a) ++ key_of (values b)

-- the key of a path has at most two bytes more than the path
abbrev pub KeyIsShort : Type 0
KeyIsShort = (s : List ℕ) → length (key_of (values s)) ≤ length s + 2
