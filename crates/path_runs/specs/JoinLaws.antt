-- Laws of joins (Rust's `Path::join`).
use Rattle.std.specs.Prelude.{◌≡◌, ◌≢◌, ℕ, false, List, [], ◌∷◌, ◌++◌}
use Rattle.unix_path.specs.Parts.{Value, RootDir, CurDir, slash, is_rooted, values, SameValues}
use Rattle.unix_path.specs.Joins.{join_of}
use Rattle.unix_path.specs.Prefixes.{IsPrefixOf, stripped_of}

-- a join of three paths has the same bytes, whichever two are joined first
abbrev pub JoinsAssociate : Type 0
JoinsAssociate = (a b c : List ℕ) → join_of (join_of a b) c ≡ join_of a (join_of b c)

-- the empty path joined with b is b
abbrev pub EmptyJoinIsPath : Type 0
EmptyJoinIsPath = (b : List ℕ) → join_of [] b ≡ b

-- a joined with the empty path has a's components
abbrev pub JoinEmptyKeepsValues : Type 0
JoinEmptyKeepsValues = (a : List ℕ) → SameValues (join_of a []) a

-- the components without a leading `.`
abbrev pub drop_dot : List Value → List Value
drop_dot (CurDir ∷ vs) = vs
drop_dot vs = vs

-- the components without a leading root or `.`
abbrev pub drop_leading : List Value → List Value
drop_leading (RootDir ∷ vs) = vs
drop_leading vs = drop_dot vs

-- a join of a, which isn't empty, with a rootless b has the components of a, followed by the
-- components of b without a leading `.`
abbrev pub JoinAddsValues : Type 0
JoinAddsValues =
    (a b : List ℕ) → a ≢ [] → is_rooted b ≡ false
    → values (join_of a b) ≡ values a ++ drop_dot (values b)

-- the components of a, a slash and b are the components of a and the slash, followed by the
-- components of b without a leading root or `.`
abbrev pub SlashAddsValues : Type 0
SlashAddsValues =
    (a b : List ℕ) → values (a ++ slash ∷ b) ≡ values (a ++ slash ∷ []) ++ drop_leading (values b)

-- the components that a join of a and b has after those of a: the components of b, without a
-- leading `.` unless a is empty
abbrev pub values_added : List ℕ → List ℕ → List Value
values_added [] b = values b
values_added (x ∷ a) b = drop_dot (values b)

-- if s starts with the components of base, then base joined with the rest of s after these
-- components is a path equal to s
abbrev pub StripThenJoin : Type 0
StripThenJoin =
    (s base : List ℕ) → IsPrefixOf (values base) (values s)
    → SameValues (join_of base (stripped_of s base)) s
