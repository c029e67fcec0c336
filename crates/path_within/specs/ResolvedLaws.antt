-- Laws of resolved paths, and of joins that stay within their root.
use Rattle.std.specs.Prelude.{◌≡◌, ◌≤◌, ◌+◌, ◌++◌, ◌∷◌, ℕ, List, length, false}
use Rattle.unix_path.specs.Joins.{join_of}
use Rattle.unix_path.specs.Parts.{Value, RootDir, CurDir, ParentDir, Normal, values}
use Rattle.path_runs.specs.JoinLaws.{drop_dot}
use Rattle.path_within.specs.Resolved.{resolved_of, resolved_bytes_of, AllNames, IsNormal}
use Rattle.path_within.specs.Escapes.{Escapes, has_root_or_parent_dir}

-- resolved components are normal
abbrev pub ResolvedIsNormal : Type 0
ResolvedIsNormal = (s : List ℕ) → IsNormal (resolved_of (values s))

-- the resolved bytes of s, parsed as a path, have the resolved components of s
abbrev pub ResolvedReadsBack : Type 0
ResolvedReadsBack = (s : List ℕ) → values (resolved_bytes_of s) ≡ resolved_of (values s)

-- resolving the resolved bytes of a path again does not change them
abbrev pub ResolvedAgain : Type 0
ResolvedAgain =
    (s : List ℕ) → resolved_bytes_of (resolved_bytes_of s) ≡ resolved_bytes_of s

-- resolving the first path of a join beforehand does not change what the join resolves to
abbrev pub ResolvedOfJoin : Type 0
ResolvedOfJoin =
    (a b : List ℕ)
    → resolved_bytes_of (join_of a b) ≡ resolved_bytes_of (join_of (resolved_bytes_of a) b)

-- a resolved path is no longer than the path
abbrev pub ResolvedIsShort : Type 0
ResolvedIsShort = (s : List ℕ) → length (resolved_bytes_of s) ≤ length s

-- f follows the rules of resolving: a name and the `..` after it cancel, each `.` drops out, a `..`
-- after a leading root drops out, and what is normal stays
pub record Resolves (f : List Value → List Value) : Type 0 where
  pub name_cancels : (v w : List Value) (name : List ℕ)
      → f (v ++ Normal name ∷ ParentDir ∷ w) ≡ f (v ++ w)
  pub dot_drops : (v w : List Value) → f (v ++ CurDir ∷ w) ≡ f (v ++ w)
  pub root_stays : (w : List Value) → f (RootDir ∷ ParentDir ∷ w) ≡ f (RootDir ∷ w)
  pub normal_stays : (v : List Value) → IsNormal v → f v ≡ v

-- a function that follows the rules of resolving resolves the components of each path as
-- `resolved_of` does
abbrev pub OnlyOneResolves : Type 0
OnlyOneResolves =
    (f : List Value → List Value) → Resolves f → (s : List ℕ)
    → f (values s) ≡ resolved_of (values s)

-- the resolved join of a and b is at most one byte longer than a and b together
abbrev pub ResolvedJoinIsShort : Type 0
ResolvedJoinIsShort =
    (a b : List ℕ) → length (resolved_bytes_of (join_of a b)) ≤ length a + 1 + length b

-- if the request b does not escape, its join to the root a resolves to the resolved components of a
-- and then the resolved components of b
abbrev pub WithinAddsNames : Type 0
WithinAddsNames =
    (a b : List ℕ) → (Escapes (values b) → ⊥)
    → resolved_of (values (join_of a b)) ≡ resolved_of (values a) ++ resolved_of (values b)

-- a request that does not escape resolves to only names
abbrev pub WithinHasNames : Type 0
WithinHasNames = (b : List ℕ) → (Escapes (values b) → ⊥) → AllNames (resolved_of (values b))

-- a request with neither a root nor a `..` does not escape
abbrev pub VerbatimStays : Type 0
VerbatimStays = (b : List ℕ) → has_root_or_parent_dir (values b) ≡ false → Escapes (values b) → ⊥

-- a request with neither a root nor a `..` has only names after its leading `.`, if it has one
abbrev pub VerbatimHasNames : Type 0
VerbatimHasNames =
    (b : List ℕ) → has_root_or_parent_dir (values b) ≡ false → AllNames (drop_dot (values b))
