-- A string cut at any of its slashes.
use Rattle.std.proofs.Common.{◌≡◌, ℕ, ◌+◌, ◌<◌, List, [], ◌∷◌, ◌++◌, length}
use Rattle.std.proofs.Common.{refl, arith}
use Rattle.std.specs.List.{slice_split}
use Rattle.std.proofs.lemmas.List.Splits.{length-slice_split}
use Rattle.unix_path.proofs.lemmas.parts.PieceLemmas.{first_piece}
use Rattle.unix_path.proofs.lemmas.parts.PieceLemmas.{slice_split-first}
use Rattle.unix_path.specs.Parts.{inner_parts, is_slash, leading_part}
use Rattle.unix_path.specs.Parts.{parts_of_pieces}
use Rattle.std.proofs.lemmas.Grind.{common_steps}

-- the total number of bytes of these pieces, with a slash after each
width : List (List ℕ) → ℕ
width [] = 0
width (p ∷ ps) = length p + 1 + width ps

-- the components of the pieces ps and qs together are those of ps, and then those of qs, which
-- begin `width ps` bytes later
parts_of_pieces-append : (at : ℕ) (ps qs : List (List ℕ))
    → parts_of_pieces at (ps ++ qs)
    ≡ parts_of_pieces at ps ++ parts_of_pieces (at + width ps) qs
unfolding width
parts_of_pieces-append at [] qs = grind arith
parts_of_pieces-append at (p ∷ ps) qs =
    let next = at + length p + 1 in
    grind (arith, parts_of_pieces-append next ps qs)

-- every string s has at least one piece
some_piece : (s : List ℕ) → 0 < length (slice_split is_slash s)
some_piece s = omega (arith, length-slice_split is_slash s)

-- the pieces of s, with a slash after each, are one byte longer than s
width-slice_split : (s : List ℕ) → width (slice_split is_slash s) ≡ length s + 1
unfolding width
width-slice_split [] = refl
width-slice_split (x ∷ s) = grind (arith, width-slice_split s, width-slice_split s)

-- the pieces of x, a slash and y are the pieces of x, and then the pieces of y
pub slice_split-append : (x y : List ℕ)
    → slice_split is_slash (x ++ 47 ∷ y) ≡ slice_split is_slash x ++ slice_split is_slash y
slice_split-append [] y = refl
slice_split-append (b ∷ x) y =
    grind (arith, common_steps, some_piece, slice_split-append x y, slice_split-append x y)

-- the inner components of x, a slash and y are those of x, and then those of y, which begins after
-- the slash
pub inner_parts-append : (at : ℕ) (x y : List ℕ)
    → inner_parts at (x ++ 47 ∷ y) ≡ inner_parts at x ++ inner_parts (at + length x + 1) y
unfolding inner_parts
inner_parts-append at x y =
    grind (arith, slice_split-append, parts_of_pieces-append, width-slice_split)

-- the first piece of x, a slash and y is the first piece of x
first_piece-append : (x y : List ℕ) → first_piece (x ++ 47 ∷ y) ≡ first_piece x
first_piece-append x y =
    grind (arith, slice_split-first (x ++ 47 ∷ y), slice_split-append x y, slice_split-first x)

-- if x is not empty, x followed by a slash and y has the same root or leading `.` as x, or both
-- have neither
pub leading_part-append : (x y : List ℕ) → 0 < length x
    → leading_part (x ++ 47 ∷ y) ≡ leading_part x
unfolding leading_part
leading_part-append [] y l = absurd (omega arith)
leading_part-append (b ∷ x) y l = grind (arith, first_piece-append (b ∷ x) y)
