-- The components of a path have at most as many bytes as the path.
use Rattle.std.proofs.Common.{◌≤◌, ℕ, List, [], ◌∷◌, length, map, ap, arith}
use Rattle.std.proofs.Common.{length-append}
use Rattle.std.specs.List.{sum, sum_by}
use Rattle.std.proofs.lemmas.Simd.{map-map}
use Rattle.std.proofs.lemmas.List.Sums.{sum_by-cons, sum-map}
use Rattle.unix_path.specs.Parts.{Value, value_bytes, values}
use Rattle.path_runs.specs.Spelling.{slashed_bytes, spelling_of}
use Rattle.path_runs.proofs.lemmas.spelling.LeanLemmas.{spelling_of-shortest}
use Rattle.std.proofs.lemmas.Grind.{common_steps}

-- the total number of bytes of the components
abbrev pub byte_count : List Value → ℕ
byte_count vs = sum_by (λ v. length (value_bytes v)) vs

-- the components vs have at most as many bytes in total as vs with slashes between them
byte_count-slashed_bytes : (vs : List Value) → byte_count vs ≤ length (slashed_bytes vs)
byte_count-slashed_bytes [] = omega arith
byte_count-slashed_bytes (v ∷ []) = omega (arith, sum_by-cons (λ v. length (value_bytes v)) v [])
byte_count-slashed_bytes (v ∷ w ∷ vs) = omega (
  arith,
  sum_by-cons (λ v. length (value_bytes v)) v (w ∷ vs),
  length-append (value_bytes v) (47 ∷ slashed_bytes (w ∷ vs)),
  byte_count-slashed_bytes (w ∷ vs),
)

-- the components vs have at most as many bytes in total as their canonical form
byte_count-spelling_of : (vs : List Value) → byte_count vs ≤ length (spelling_of vs)
unfolding spelling_of
byte_count-spelling_of [] = omega arith
byte_count-spelling_of (v ∷ vs) = grind (arith, common_steps, sum_by-cons, byte_count-slashed_bytes)

-- the components of s have at most as many bytes in total as s
pub byte_count-values : (s : List ℕ) → byte_count (values s) ≤ length s
byte_count-values s = grind (arith, byte_count-spelling_of, spelling_of-shortest)

-- the bytes of the components of s, as a list of strings, have at most the length of s in total
pub sum_by-items : (s : List ℕ) → sum_by length (map value_bytes (values s)) ≤ length s
sum_by-items s =
    let vs = values s in
    omega (
      arith,
      sum-map length (map value_bytes vs),
      ap sum (map-map length value_bytes vs),
      sum-map (λ v. length (value_bytes v)) vs,
      byte_count-values s,
    )
