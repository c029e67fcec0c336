-- The canonical form of components, with and without a root as the first of them.
use Rattle.std.proofs.Common.{◌≡◌, ℕ, List, [], ◌∷◌, map, filter, refl, ap₂, rules}
use Rattle.std.specs.List.{slice_split, join_with_byte}
use Rattle.unix_path.specs.Parts.{is_slash, slash, Value, RootDir, CurDir, value_of_piece}
use Rattle.unix_path.specs.Parts.{value_bytes, counts, values}
use Rattle.unix_path.proofs.lemmas.parts.ValueLemmas.{value_bytes-piece, no_root_piece}
use Rattle.path_runs.specs.Spelling.{slashed_bytes, spelling_of}
use Rattle.path_runs.proofs.lemmas.spelling.PieceValueLemmas.{values-rooted}

-- the bytes of the component of each piece of ps are that piece
pub bytes_of_pieces : (ps : List (List ℕ)) → map value_bytes (map value_of_piece ps) ≡ ps
bytes_of_pieces [] = refl
bytes_of_pieces (p ∷ ps) = ap₂ (λ q qs. q ∷ qs) (value_bytes-piece p) (bytes_of_pieces ps)

pub spelling_of-root : (vs : List Value) → spelling_of (RootDir ∷ vs) ≡ slash ∷ slashed_bytes vs
unfolding spelling_of
spelling_of-root vs = refl

pub spelling_of-dot : (vs : List Value) → spelling_of (CurDir ∷ vs) ≡ slashed_bytes (CurDir ∷ vs)
unfolding spelling_of
spelling_of-dot vs = refl

-- if v isn't the root, the canonical form of v and then vs is their bytes with slashes between them
pub spelling_of-cons : (v : Value) (vs : List Value) → (v ≡ RootDir → ⊥)
    → spelling_of (v ∷ vs) ≡ slashed_bytes (v ∷ vs)
unfolding spelling_of
spelling_of-cons RootDir vs h = absurd (h refl)
spelling_of-cons v vs h = refl

pub spelling_of-nil : spelling_of [] ≡ []
unfolding spelling_of
spelling_of-nil = refl

-- the canonical form of the components of the pieces ps is ps with slashes between them
pub spelling_of-pieces : (ps : List (List ℕ))
    → spelling_of (map value_of_piece ps) ≡ join_with_byte slash ps
spelling_of-pieces [] = spelling_of-nil
spelling_of-pieces (p ∷ ps) = search (rules, spelling_of-cons, no_root_piece, bytes_of_pieces)

-- the canonical form of a slash and then t is a slash, followed by the pieces of t that are neither
-- empty nor `.`, with slashes between them
pub spelling_of-rooted : (t : List ℕ)
    → spelling_of (values (slash ∷ t)) ≡ slash ∷ join_with_byte slash
    (filter counts (slice_split is_slash t))
spelling_of-rooted t =
    let ps = slice_split is_slash t in
    simp (values-rooted, spelling_of-root, bytes_of_pieces)
