-- Laws of requests that are joined to roots.
use Rattle.std.specs.Prelude.{◌≡◌, ◌≢◌, ◌++◌, ◌∷◌, ℕ, List, []}
use Rattle.unix_path.specs.Joins.{join_of}
use Rattle.unix_path.specs.Parts.{slash, values, SameValues}
use Rattle.unix_path.specs.Prefixes.{IsPrefixOf, stripped_of}
use Rattle.path_runs.specs.JoinLaws.{drop_dot}
use Rattle.path_within.specs.Below.{below_of, names_below, GoesDown}
use Rattle.path_within.specs.Escapes.{Escapes}
use Rattle.path_within.specs.Resolved.{resolved_of, resolved_bytes_of, AllNames}

-- a request represents only names
abbrev pub BelowHasNames : Type 0
BelowHasNames = (b : List ℕ) → AllNames (names_below (values b))

-- a request that does not escape represents what it resolves to
abbrev pub BelowResolves : Type 0
BelowResolves =
    (b : List ℕ) → (Escapes (values b) → ⊥) → names_below (values b) ≡ resolved_of (values b)

-- leading slashes do not change what a request represents
abbrev pub BelowSlash : Type 0
BelowSlash = (b : List ℕ) → names_below (values (slash ∷ b)) ≡ names_below (values b)

-- the names that a request represents, taken as the components of a request, represent the same
-- names
abbrev pub BelowAgain : Type 0
BelowAgain =
    (b : List ℕ) → names_below (names_below (values b)) ≡ names_below (values b)

-- the join of `root` and the names of the request b begins with the bytes of `root`
abbrev pub BelowHasPrefix : Type 0
BelowHasPrefix = (root b : List ℕ) → IsPrefixOf root (below_of root (names_below (values b)))

-- the join of `root` and the names of the request b has the components of `root` and then these
-- names
abbrev pub BelowAddsNames : Type 0
BelowAddsNames =
    (root b : List ℕ) → values (below_of root (names_below (values b)))
    ≡ values root ++ names_below (values b)

-- without `root`, the join of `root` and the names of the request b has these names as its
-- components
abbrev pub BelowStripped : Type 0
BelowStripped =
    (root b : List ℕ) → values (stripped_of (below_of root (names_below (values b))) root)
    ≡ names_below (values b)

-- the join of a resolved root and a request that does not escape is the resolved join
abbrev pub BelowWithin : Type 0
BelowWithin =
    (root b : List ℕ) → (Escapes (values b) → ⊥)
    → below_of (resolved_bytes_of root) (names_below (values b))
    ≡ resolved_bytes_of (join_of root b)

-- if `path` goes down from `root`, and `root` is not empty, `path` is equal to the join of `root`
-- and the names that the rest of `path` after `root` represents
abbrev pub DownIsJoined : Type 0
DownIsJoined =
    (root path : List ℕ) → GoesDown root path → root ≢ []
    → SameValues (below_of root (names_below (values (stripped_of path root)))) path

-- if `path` goes down from the empty root, the join of the empty root and the names that the rest
-- of `path` represents has the components of `path`, except a leading `.`
abbrev pub DownIsJoinedHere : Type 0
DownIsJoinedHere =
    (path : List ℕ) → GoesDown [] path
    → values (below_of [] (names_below (values (stripped_of path [])))) ≡ drop_dot (values path)
