-- No path is shorter than its canonical form.
use Rattle.std.proofs.Common.{◌≡◌, ℕ, ◌+◌, ◌<◌, ◌≤◌, eqb, List, [], ◌∷◌, ◌++◌, length, drop, sym}
use Rattle.std.proofs.Common.{refl, ap, subst, ◌∙◌, ◌⊎◌, inl, inr, arith, append-nil, length-append}
use Rattle.std.proofs.Common.{eqb-true}
use Rattle.std.specs.List.{flat_map, slice_split, join_with_byte, position_or_len}
use Rattle.std.proofs.lemmas.List.Splits.{join_with_byte-slice_split}
use Rattle.unix_path.specs.CommonDir.{inner_values}
use Rattle.unix_path.specs.Parts.{is_slash, slash, counts, Value, RootDir, values}
use Rattle.unix_bytes.proofs.lemmas.lists.ListLemmas.{by_test, drop-suc_cons}
use Rattle.unix_path.proofs.lemmas.parts.PieceLemmas.{first_piece, first_piece-other}
use Rattle.unix_path.proofs.lemmas.parts.PieceLemmas.{position_or_len-other, slice_split-first}
use Rattle.unix_path.proofs.lemmas.parts.ValueLemmas.{value_bytes-piece}
use Rattle.path_runs.specs.Gaps.{slashed_parts}
use Rattle.path_runs.specs.Spelling.{slash_each, slashed_bytes, spelling_of}
use Rattle.path_runs.proofs.lemmas.spelling.PieceValueLemmas.{inner_values-pieces, names_of}
use Rattle.path_runs.proofs.lemmas.spelling.PieceValueLemmas.{values-rooted}
use Rattle.path_runs.proofs.lemmas.spelling.SpellLemmas.{spelling_of-root}
use Rattle.path_runs.proofs.lemmas.gaps.FirstGapLemmas.{first_slash, no_parts_after_end}
use Rattle.path_runs.proofs.lemmas.gaps.FirstGapLemmas.{slashed_parts-slash}
use Rattle.path_runs.proofs.lemmas.gaps.GapSpellingLemmas.{slashed_bytes-cons}
use Rattle.path_runs.proofs.lemmas.gaps.GapSpellingLemmas.{spelling_of-name, spelling_of-short}
use Rattle.path_runs.proofs.lemmas.spelling.ReadBackLemmas.{values-spelling_of, spelling_of-same}

-- u has the same bytes as s, or is shorter
abbrev SameOrShorter : List ℕ → List ℕ → Type 0
SameOrShorter u s = (u ≡ s) ⊎ (length u < length s)

SameOrShorter-append : (p u s : List ℕ) → SameOrShorter u s → SameOrShorter (p ++ u) (p ++ s)
SameOrShorter-append p u s (inl e) = inl (ap (λ z. p ++ z) e)
SameOrShorter-append p u s (inr h) = inr (omega (arith, length-append p u, length-append p s))

SameOrShorter-longer : (u s t : List ℕ) → SameOrShorter u s → length s < length t
    → SameOrShorter u t
SameOrShorter-longer u s t (inl e) l = inr (omega (arith, ap length e))
SameOrShorter-longer u s t (inr h) l = inr (omega arith)

-- the pieces, each after a slash
abbrev each_piece : List (List ℕ) → List ℕ
each_piece ps = flat_map (λ p. slash ∷ p) ps

-- the components of the pieces ps, each after a slash, are the same bytes as all pieces of ps, each
-- after a slash, or fewer
SameOrShorter-names : (ps : List (List ℕ))
    → SameOrShorter (slash_each (names_of ps)) (each_piece ps)
SameOrShorter-names [] = inl refl
SameOrShorter-names (p ∷ ps) = by_test (counts p)
    (λ e. rw (e, value_bytes-piece p)
    (SameOrShorter-append (slash ∷ p) (slash_each (names_of ps)) (each_piece ps)
    (SameOrShorter-names ps)))
    (λ e. rw e (SameOrShorter-longer (slash_each (names_of ps)) (each_piece ps)
    (each_piece (p ∷ ps))
    (SameOrShorter-names ps) (omega (arith, length-append p (each_piece ps)))))

-- one or more pieces, each after a slash, are a slash and then the pieces joined by slashes
each_piece-join : (p : List ℕ) (ps : List (List ℕ))
    → each_piece (p ∷ ps) ≡ slash ∷ join_with_byte slash (p ∷ ps)
each_piece-join p [] = ap (λ u. slash ∷ u) (append-nil p)
each_piece-join p (q ∷ ps) = ap (λ u. slash ∷ (p ++ u)) (each_piece-join q ps)

-- a string is its pieces, joined by slashes
pub join_with_byte-pieces : (s : List ℕ) → join_with_byte slash (slice_split is_slash s) ≡ s
join_with_byte-pieces s = join_with_byte-slice_split 47 s

each_piece-whole : (s : List ℕ) → each_piece (slice_split is_slash s) ≡ slash ∷ s
each_piece-whole s =
    let first = slice_split-first s in
    ap each_piece first ∙ each_piece-join (first_piece s) _
    ∙ ap (λ ps. slash ∷ join_with_byte slash ps) (sym first)
    ∙ ap (λ u. slash ∷ u) (join_with_byte-pieces s)

-- the components of s without a leading root or `.`, each after a slash, are the same bytes as a
-- slash and s, or fewer
slashed_parts-lean : (s : List ℕ) → SameOrShorter (slashed_parts s) (slash ∷ s)
unfolding slashed_parts
slashed_parts-lean s =
    grind (arith, inner_values-pieces, each_piece-whole, SameOrShorter-names)

SameOrShorter-length : (u s : List ℕ) → SameOrShorter u s → length u ≤ length s
SameOrShorter-length u s (inl e) = omega (arith, ap length e)
SameOrShorter-length u s (inr h) = omega arith

-- the components of s without a leading root or `.`, each after a slash, have at most one byte more
-- than s
pub slashed_parts-length : (s : List ℕ) → length (slashed_parts s) ≤ length s + 1
slashed_parts-length s = grind (arith, SameOrShorter-length, slashed_parts-lean)

-- the components of s without a leading root or `.`, with slashes between them, have at most as
-- many bytes as s
pub slashed_bytes-lean : (s : List ℕ) → length (slashed_bytes (inner_values s)) ≤ length s
unfolding slashed_parts
slashed_bytes-lean s = by (inner_values s) (slashed_parts-length s)
  where
    by : (vs : List Value) → length (slash_each vs) ≤ length s + 1
        → length (slashed_bytes vs) ≤ length s
    by [] l = omega arith
    by (v ∷ vs) l = omega (arith, ap length (slashed_bytes-cons v vs))

-- if the components vs, each after a slash, are the same bytes as a slash and s, or fewer, then so
-- are a slash and vs with slashes between them
SameOrShorter-root : (vs : List Value) (s : List ℕ) → SameOrShorter (slash_each vs) (slash ∷ s)
    → SameOrShorter (slash ∷ slashed_bytes vs) (slash ∷ s)
SameOrShorter-root [] [] h = inl refl
SameOrShorter-root [] (x ∷ s) h = inr (omega arith)
SameOrShorter-root (v ∷ vs) s h = rw (slashed_bytes-cons v vs) h

-- the first piece of s and the components after it, each after a slash, are the same bytes as s, or
-- fewer
SameOrShorter-first : (s : List ℕ)
    → SameOrShorter (first_piece s ++ slashed_parts (drop (position_or_len is_slash s) s)) s
SameOrShorter-first [] = inl (no_parts_after_end [] [] 0 (omega arith))
SameOrShorter-first (x ∷ s) = by_test (eqb x 47)
    (λ e. rw (first_slash x s e, slashed_parts-slash x s e, eqb-true x 47 e) (slashed_parts-lean s))
    (λ e. rw (
      first_piece-other x s e,
      position_or_len-other x s e,
      drop-suc_cons (position_or_len is_slash s) x s,
    )
    (SameOrShorter-append (x ∷ []) _ s (SameOrShorter-first s)))

-- the canonical form of a path is the path itself, or shorter
spelling_of-lean : (s : List ℕ) → SameOrShorter (spelling_of (values s)) s
unfolding slashed_parts
spelling_of-lean [] = inl (spelling_of-short [] (omega arith))
spelling_of-lean (x ∷ s) = by_test (eqb x 47)
    (λ e. rw (eqb-true x 47 e) (subst (λ u. SameOrShorter u (slash ∷ s))
    (sym (ap spelling_of (values-rooted s ∙ ap (λ vs. RootDir ∷ vs) (sym (inner_values-pieces s)))
    ∙ spelling_of-root (inner_values s)))
    (SameOrShorter-root (inner_values s) s (slashed_parts-lean s))))
    (λ e. rw (spelling_of-name (x ∷ s) (omega arith) e) (SameOrShorter-first (x ∷ s)))

-- if t has the components of s, t is the canonical form of s or longer than it
pub spelling_of-shortest : (s t : List ℕ) → values t ≡ values s
    → (t ≡ spelling_of (values s)) ⊎ (length (spelling_of (values s)) < length t)
spelling_of-shortest s t e =
    grind (arith, spelling_of-lean)

pub ruleset canonical_form_cases = (values-spelling_of, spelling_of-shortest, spelling_of-same)

pub ruleset canonical_is_short_cases = spelling_of-shortest
