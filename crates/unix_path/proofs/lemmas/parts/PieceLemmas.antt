-- The first piece of a string, and what follows it.
use Rattle.std.proofs.Common.{◌≡◌, ℕ, ◌+◌, true, false, cond, eqb, List, [], ◌∷◌, ◌++◌, length, ◌<◌}
use Rattle.std.proofs.Common.{take, drop, refl, ap, arith, get_or}
use Rattle.std.specs.List.{before_first, slice_split, position_or_len}
use Rattle.std.proofs.lemmas.Grind.{common_steps}
use Rattle.unix_bytes.proofs.lemmas.lists.ListLemmas.{drop-suc_cons, take-suc_cons}
use Rattle.unix_path.specs.Parts.{Part, inner_parts, counts, is_slash}
use Rattle.unix_path.specs.Parts.{value_of_piece}

pub inner_parts-nil : (at : ℕ) → inner_parts at [] ≡ []
unfolding inner_parts
inner_parts-nil at = refl

-- a slash put before s adds no inner component
pub inner_parts-slash : (at : ℕ) (s : List ℕ) → inner_parts at (47 ∷ s) ≡ inner_parts (at + 1) s
unfolding inner_parts
inner_parts-slash at s = grind arith

-- a string that is only a `.` has no inner component
pub inner_parts-dot : (at : ℕ) → inner_parts at (46 ∷ []) ≡ []
unfolding inner_parts
inner_parts-dot at = refl

-- a `.` put before a slash and s adds no inner component
pub inner_parts-dot_slash : (at : ℕ) (s : List ℕ)
    → inner_parts at (46 ∷ 47 ∷ s) ≡ inner_parts (at + 1) (47 ∷ s)
unfolding inner_parts
inner_parts-dot_slash at s = grind arith

-- the bytes before the first slash
abbrev pub first_piece : List ℕ → List ℕ
first_piece = before_first is_slash

-- the pieces of a string after its first byte, a slash; none if the string is empty
abbrev later_pieces : List ℕ → List (List ℕ)
later_pieces [] = []
later_pieces (b ∷ s) = slice_split is_slash s

-- the string is empty or begins with a slash
abbrev IsCut : List ℕ → Type 0
IsCut [] = Unit {0}
IsCut (b ∷ s) = b ≡ 47

pub position_or_len-slash : (x : ℕ) (xs : List ℕ) → eqb x 47 ≡ true
    → position_or_len is_slash (x ∷ xs) ≡ 0
position_or_len-slash x xs e = rw e refl

pub position_or_len-other : (x : ℕ) (xs : List ℕ) → eqb x 47 ≡ false
    → position_or_len is_slash (x ∷ xs) ≡ 1 + position_or_len is_slash xs
position_or_len-other x xs e = rw e refl

-- if x is a slash, the first piece of x followed by s is empty
pub first_piece-slash : (x : ℕ) (s : List ℕ) → eqb x 47 ≡ true → first_piece (x ∷ s) ≡ []
first_piece-slash x s e = ap (λ n. take n (x ∷ s)) (position_or_len-slash x s e)

-- if x is not a slash, the first piece of x followed by s is x followed by the first piece of s
pub first_piece-other : (x : ℕ) (s : List ℕ) → eqb x 47 ≡ false
    → first_piece (x ∷ s) ≡ x ∷ first_piece s
first_piece-other x s e = grind arith

-- the pieces of s are its first piece, and then the pieces after it
pub slice_split-first : (s : List ℕ)
    → slice_split is_slash s ≡ first_piece s ∷ later_pieces (drop (position_or_len is_slash s) s)
slice_split-first [] = refl
slice_split-first (x ∷ xs) = grind (arith, take-suc_cons, slice_split-first xs)

-- the bytes of s after its first piece are empty or begin with a slash
IsCut-drop : (s : List ℕ) → IsCut (drop (position_or_len is_slash s) s)
IsCut-drop [] = tt
IsCut-drop (x ∷ xs) = grind (arith, drop-suc_cons, IsCut-drop xs)

-- if s is not empty and contains no slash, its first byte isn't a slash
pub no_slash_head : (s : List ℕ) → position_or_len is_slash s ≡ length s → 0 < length s
    → eqb (get_or s 0 0) 47 ≡ false
no_slash_head [] e l = absurd (omega arith)
no_slash_head (b ∷ s) e l = grind arith

-- the length of the first piece of s is the index of the first slash of s, or the length of s if it
-- has no slash
pub length-first_piece : (s : List ℕ) → length (first_piece s) ≡ position_or_len is_slash s
length-first_piece [] = refl
length-first_piece (x ∷ xs) =
    grind (arith, first_piece-other, position_or_len-other, length-first_piece xs)

-- the component of the piece p at index `at`, or none if p is empty or `.`
abbrev pub parts_of_piece : ℕ → List ℕ → List Part
parts_of_piece at p = cond (counts p)
    (record { start = at; end = at + length p; value = value_of_piece p } ∷ []) []

-- the inner components of s are the component of its first piece, if this piece is neither empty
-- nor `.`, and then the inner components after it
pub inner_parts-first : (at : ℕ) (s : List ℕ)
    → inner_parts at s
    ≡ parts_of_piece at (first_piece s) ++ inner_parts (at + position_or_len is_slash s)
    (drop (position_or_len is_slash s) s)
unfolding inner_parts
inner_parts-first at s = grind (arith, common_steps, slice_split-first, IsCut-drop)
