-- A resolved path is no longer than the path.
use Rattle.std.proofs.Common.{◌≡◌, ℕ, ◌+◌, ◌-◌, ◌<◌, ◌≤◌, false, List, [], ◌∷◌, length, reverse}
use Rattle.std.proofs.Common.{refl, sym, ap, ◌∙◌, arith, length-append}
use Rattle.std.specs.List.{sum_by}
use Rattle.std.proofs.lemmas.List.Sorted.{IsPermutation-reverse, sum_by-IsPermutation}
use Rattle.std.proofs.lemmas.List.Sums.{sum_by-append, sum_by-cons}
use Rattle.unix_path.specs.CommonDir.{inner_values}
use Rattle.unix_path.specs.Joins.{join_of}
use Rattle.unix_path.specs.Parts.{Value, RootDir, slash, is_rooted, value_bytes, values}
use Rattle.unix_path.proofs.lemmas.edits.JoinLemmas.{push_cases}
use Rattle.path_runs.specs.Spelling.{slashed_bytes, spelling_of}
use Rattle.path_runs.proofs.lemmas.joins.LeadLemmas.{drop_dot-values}
use Rattle.path_runs.proofs.lemmas.spelling.LeanLemmas.{slashed_bytes-lean}
use Rattle.path_runs.proofs.lemmas.spelling.PieceValueLemmas.{is_rooted-slash}
use Rattle.path_runs.proofs.lemmas.spelling.SpellLemmas.{spelling_of-root}
use Rattle.path_within.specs.Below.{names_below}
use Rattle.path_within.specs.Resolved.{push_component, resolved_of, resolved_bytes_of}
use Rattle.path_within.proofs.lemmas.stack.Stacks.{resolve_onto}
use Rattle.path_within.specs.WrittenBytes.{slashed_len}
use Rattle.path_within.proofs.lemmas.stack.ResolveLemmas.{resolve_onto-drop_dot}
use Rattle.path_within.proofs.lemmas.below.NamesBelowLemmas.{names_on_stack, names_below-inner}
use Rattle.path_within.proofs.lemmas.below.NamesBelowLemmas.{names_below-stack, resolved_of-slash}

-- pushing the component v onto a stack adds at most f v to the stack's sum of f
sum_by-push_component : (f : Value → ℕ) (ks : List Value) (v : Value)
    → sum_by f (push_component ks v) ≤ sum_by f ks + f v
sum_by-push_component f [] v = grind (arith, sum_by-cons f v [])
sum_by-push_component f (k ∷ ks) v =
    grind (arith, sum_by-cons f v [], sum_by-cons f v (k ∷ ks), sum_by-cons f k ks)

-- resolving the components vs onto a stack adds at most their sum of f to the stack's sum of f
sum_by-resolve_onto : (f : Value → ℕ) (ks vs : List Value)
    → sum_by f (resolve_onto ks vs) ≤ sum_by f ks + sum_by f vs
sum_by-resolve_onto f ks [] = omega arith
sum_by-resolve_onto f ks (v ∷ vs) = omega (
  arith,
  sum_by-resolve_onto f (push_component ks v) vs,
  sum_by-push_component f ks v,
  sum_by-cons f v vs,
)

sum_by-reverse : (f : Value → ℕ) (vs : List Value) → sum_by f (reverse vs) ≡ sum_by f vs
sum_by-reverse f vs = sum_by-IsPermutation f vs (reverse vs) (IsPermutation-reverse vs)

-- the sum of f over the names that remain of vs after resolving is at most the sum of f over all
-- components of vs
pub sum_by-names_below : (f : Value → ℕ) (vs : List Value)
    → sum_by f (names_below vs) ≤ sum_by f vs
sum_by-names_below f vs =
    let found = names_on_stack vs in grind (
      arith,
      names_below-stack vs found.0 found.2,
      sum_by-reverse f found.0,
      sum_by-append f found.0 (RootDir ∷ []),
      sum_by-resolve_onto f (RootDir ∷ []) vs,
    )

-- the length of components with a slash for each is the sum of the first component's length, one
-- for its slash, and the length of the components after it, with a slash for each
pub slashed_len-cons : (v : Value) (vs : List Value)
    → slashed_len (v ∷ vs) ≡ (1 + length (value_bytes v)) + slashed_len vs
slashed_len-cons v vs = sum_by-cons (λ v. 1 + length (value_bytes v)) v vs

-- with slashes only between them, components are one byte shorter than with a slash for each; if
-- there are none, both lengths are 0
pub length-slashed_bytes : (vs : List Value) → length (slashed_bytes vs) ≡ slashed_len vs - 1
length-slashed_bytes [] = refl
length-slashed_bytes (v ∷ []) = omega (arith, slashed_len-cons v [])
length-slashed_bytes (v ∷ w ∷ vs) = omega (
  arith,
  slashed_len-cons v (w ∷ vs),
  slashed_len-cons w vs,
  length-slashed_bytes (w ∷ vs),
  length-append (value_bytes v) (slash ∷ slashed_bytes (w ∷ vs)),
)

-- there is at least one name, and the bytes are the names with single slashes between them
pub record AreVerbatim (bytes : List ℕ) (names : List Value) : Type 0 where
  pub some : 0 < length names
  pub is : bytes ≡ slashed_bytes names

-- the number of components is at most their length with a slash for each
pub length-le-slashed_len : (vs : List Value) → length vs ≤ slashed_len vs
length-le-slashed_len [] = omega arith
length-le-slashed_len (v ∷ vs) = grind (arith, slashed_len-cons v vs, length-le-slashed_len vs)

-- the inner components of a path (all except its root or leading `.`), with a slash for each, are
-- no longer than the path and a slash
slashed_len-inner : (s : List ℕ) → slashed_len (inner_values s) ≤ 1 + length s
slashed_len-inner s = grind (arith, length-slashed_bytes (inner_values s), slashed_bytes-lean s)

-- the resolved names of a path, with a slash for each, are no longer than the path and a slash
pub slashed_len-names : (s : List ℕ) → slashed_len (names_below (values s)) ≤ 1 + length s
slashed_len-names s = omega (
  arith,
  ap slashed_len (names_below-inner s),
  sum_by-names_below (λ v. 1 + length (value_bytes v)) (inner_values s),
  slashed_len-inner s,
)

-- the resolved names of a path, with slashes only between them, are no longer than the path
pub slashed_bytes-names : (s : List ℕ) → length (slashed_bytes (names_below (values s))) ≤ length s
slashed_bytes-names s = grind (arith, length-slashed_bytes, slashed_len-names)

-- if components have at most n + 1 bytes with a slash for each, their canonical form has at most n
-- bytes
spelling_of-fit : (vs : List Value) (n : ℕ) → slashed_len vs ≤ 1 + n → length (spelling_of vs) ≤ n
unfolding spelling_of
spelling_of-fit [] n l = omega arith
spelling_of-fit (v ∷ vs) n l =
    grind (arith, slashed_len-cons v vs, length-slashed_bytes (v ∷ vs), length-slashed_bytes vs)

-- the canonical form of vs is at least one byte shorter than vs with a slash for each; if vs is
-- empty, both lengths are 0
pub length-spelling : (vs : List Value) → length (spelling_of vs) ≤ slashed_len vs - 1
length-spelling vs = spelling_of-fit vs (slashed_len vs - 1) (omega arith)

-- the resolved components of a path without a root, with a slash for each, are no longer than the
-- path and a slash
pub slashed_len-rootless : (s : List ℕ) → is_rooted s ≡ false
    → slashed_len (resolved_of (values s)) ≤ 1 + length s
unfolding resolved_of
slashed_len-rootless s r = grind (
  arith,
  sum_by-reverse,
  sum_by-resolve_onto,
  slashed_len-inner,
  ap slashed_len
      (ap (resolve_onto []) (sym (drop_dot-values s r)) ∙ resolve_onto-drop_dot [] (values s)),
)

-- a resolved path is no longer than the path
pub length-resolved : (s : List ℕ) → length (resolved_bytes_of s) ≤ length s
unfolding resolved_of
length-resolved s =
    grind (
      arith,
      is_rooted-slash,
      spelling_of-fit,
      slashed_len-rootless,
      resolved_of-slash,
      spelling_of-root,
      slashed_bytes-names,
    )

-- the join of a and b is at most one byte longer than a and b together
pub length-join_of : (a b : List ℕ) → length (join_of a b) ≤ length a + 1 + length b
length-join_of a b = grind (arith, push_cases)

pub ruleset write_resolved_cases = length-resolved
