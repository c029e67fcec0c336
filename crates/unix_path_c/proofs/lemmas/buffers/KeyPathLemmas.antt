-- The path of a key is at most 3/2 times as long as the key.
use Rattle.std.proofs.Common.{◌≡◌, ◌≤◌, ◌+◌, ◌*◌, ℕ, List, [], ◌∷◌, length, map, ap, arith}
use Rattle.std.proofs.Common.{length-append, Some, unwrap_or}
use Rattle.std.proofs.lemmas.List.{length-map}
use Rattle.unix_path.specs.Parts.{Value, RootDir, CurDir, ParentDir, Normal, slash, value_bytes}
use Rattle.unix_path.specs.Parts.{values}
use Rattle.path_runs.specs.Spelling.{slashed_bytes, spelling_of}
use Rattle.path_keys.specs.Keys.{code, key_of, raised, IsKey}
use Rattle.path_keys.proofs.lemmas.values.LengthLemmas.{length-key_of-cons}

-- a component and a slash are at most 3/2 times as long as the component's code in a key
length-value : (v : Value) → 2 * (length (value_bytes v) + 1) ≤ 3 * length (code v)
length-value RootDir = omega arith
length-value CurDir = omega arith
length-value ParentDir = omega arith
length-value (Normal name) =
    omega (arith, length-append (map raised name) (0 ∷ []), length-map name raised)

-- components with slashes between them are at most 3/2 times as long as their key
length-slashed_bytes : (vs : List Value) → 2 * length (slashed_bytes vs) ≤ 3 * length (key_of vs)
length-slashed_bytes [] = omega arith
length-slashed_bytes (v ∷ []) = omega (arith, length-key_of-cons v [], length-value v)
length-slashed_bytes (v ∷ w ∷ vs) = omega (
  arith,
  length-key_of-cons v (w ∷ vs),
  length-value v,
  length-append (value_bytes v) (slash ∷ slashed_bytes (w ∷ vs)),
  length-slashed_bytes (w ∷ vs),
)

-- the canonical form of components is at most 3/2 times as long as their key
pub length-spelling_of : (vs : List Value) → 2 * length (spelling_of vs) ≤ 3 * length (key_of vs)
unfolding spelling_of
length-spelling_of [] = omega arith
length-spelling_of (RootDir ∷ vs) =
    omega (arith, length-key_of-cons RootDir vs, length-slashed_bytes vs)
length-spelling_of (v ∷ vs) = length-slashed_bytes (v ∷ vs)

-- the path that is read from a key is at most 3/2 times as long as the key
pub path_of_key_bound : (key : List ℕ) (len : ℕ) → IsKey key
    → ((s : List ℕ) → key_of (values s) ≡ key → Some len ≡ Some (length (spelling_of (values s))))
    → 2 * len ≤ 3 * length key
path_of_key_bound key len is h = omega (
  arith,
  ap (λ o. unwrap_or o 0) (h is.0 is.1),
  ap length is.1,
  length-spelling_of (values is.0),
)
