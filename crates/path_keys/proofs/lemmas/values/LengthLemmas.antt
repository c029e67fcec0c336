-- A key has at most two bytes more than its path.
use Rattle.std.proofs.Common.{◌≡◌, ◌≤◌, ◌+◌, ℕ, List, [], ◌∷◌, length, map, ⊎_elim, refl, ap}
use Rattle.std.proofs.Common.{arith, length-append, ◌∙◌}
use Rattle.std.proofs.lemmas.List.{length-map}
use Rattle.unix_path.specs.Parts.{Value, RootDir, CurDir, ParentDir, Normal, slash, value_bytes}
use Rattle.unix_path.specs.Parts.{values}
use Rattle.path_runs.specs.Spelling.{slashed_bytes, spelling_of}
use Rattle.path_runs.proofs.lemmas.spelling.LeanLemmas.{spelling_of-shortest}
use Rattle.path_keys.specs.Keys.{raised, code, key_of}
use Rattle.path_keys.proofs.lemmas.values.KeyLemmas.{key_of-nil, key_of-cons}

-- the code of v has at most one byte more than v has in a path
length-code : (v : Value) → length (code v) ≤ length (value_bytes v) + 1
length-code RootDir = omega arith
length-code CurDir = omega arith
length-code ParentDir = omega arith
length-code (Normal name) =
    omega (arith, length-append (map raised name) (0 ∷ []), length-map name raised)

-- the key of v and vs is as long as the code of v and the key of vs together
pub length-key_of-cons : (v : Value) (vs : List Value)
    → length (key_of (v ∷ vs)) ≡ length (code v) + length (key_of vs)
length-key_of-cons v vs = ap length (key_of-cons v vs) ∙ length-append (code v) (key_of vs)

-- the key of vs has at most one byte more than the bytes of these components joined by slashes
length-key_of-slashed : (vs : List Value)
    → length (key_of vs) ≤ length (slashed_bytes vs) + 1
length-key_of-slashed [] = omega (arith, ap length key_of-nil)
length-key_of-slashed (v ∷ []) =
    omega (arith, length-key_of-cons v [], ap length key_of-nil, length-code v)
length-key_of-slashed (v ∷ w ∷ vs) = omega (
  arith,
  length-key_of-cons v (w ∷ vs),
  length-code v,
  length-append (value_bytes v) (slash ∷ slashed_bytes (w ∷ vs)),
  length-key_of-slashed (w ∷ vs),
)

-- the key of vs has at most two bytes more than the canonical form of vs
length-key_of-spelled : (vs : List Value)
    → length (key_of vs) ≤ length (spelling_of vs) + 2
unfolding spelling_of
length-key_of-spelled [] = omega (arith, ap length key_of-nil)
length-key_of-spelled (RootDir ∷ vs) =
    omega (arith, length-key_of-cons RootDir vs, length-key_of-slashed vs)
length-key_of-spelled (v ∷ vs) = omega (arith, length-key_of-slashed (v ∷ vs))

-- the key of a path has at most two bytes more than the path
pub length-key_of : (s : List ℕ) → length (key_of (values s)) ≤ length s + 2
length-key_of s =
    let spelled = length-key_of-spelled (values s) in
    ⊎_elim (λ same. omega (arith, spelled, ap length same)) (λ longer. omega (arith, spelled))
    (spelling_of-shortest s s refl)
