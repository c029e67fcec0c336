-- All pieces are names if a name starts at the beginning and no run of names ends.
use Rattle.std.proofs.Common.{◌≡◌, ℕ, suc, ◌<◌, true, List, [], ◌∷◌, length}
use Rattle.std.proofs.Common.{refl, ap, ◌∙◌, arith, drop, false}
use Rattle.std.specs.Int.{from_bool}
use Rattle.unix_path.specs.Parts.{dot, is_rooted, is_slash, slash}
use Rattle.unix_path.specs.NameRunEnds.{ends_name_run_of, no_name_starts_at}
use native.Mathlib.Numerals.{unary_clauses}
use Rattle.std.specs.List.{list_all, onto_first, slice_split}
use Rattle.std.proofs.lemmas.Bool.{and_from}
use Rattle.std.proofs.lemmas.List.Splits.{slice_split-cons_yes, slice_split-cons_no}
use Rattle.unix_bytes.proofs.lemmas.lists.ListLemmas.{by_test}
use Rattle.unix_path.proofs.lemmas.parts.PieceLemmas.{slice_split-first}
use Rattle.path_within.specs.NamePieces.{has_only_name_pieces, is_names_only}
use Rattle.path_within.proofs.lemmas.names_only.NamesOnlyLemmas.{is_name_piece}
use Rattle.std.proofs.lemmas.Grind.{common_steps}

-- all pieces except the first
abbrev after_first : List (List ℕ) → List (List ℕ)
after_first [] = []
after_first (p ∷ ps) = ps

-- adding a byte to the start of the first piece leaves the pieces after it unchanged
after_first-onto : (b : ℕ) (ps : List (List ℕ)) → after_first (onto_first b ps) ≡ after_first ps
after_first-onto b [] = refl
after_first-onto b (p ∷ ps) = refl

-- if a name starts at index 0 and the pieces after the first are names, all pieces are names
all_name_pieces : (s : List ℕ) → no_name_starts_at slash dot s 0 ≡ false
    → list_all is_name_piece (after_first (slice_split is_slash s)) ≡ true
    → has_only_name_pieces s ≡ true
all_name_pieces s first others = grind (arith, common_steps, slice_split-first, and_from)

-- if no run of names ends in s, all pieces except the first are names
later_pieces_are_names : (s : List ℕ)
    → ((k : ℕ) → k < length s → ends_name_run_of slash dot s k ≡ false)
    → list_all is_name_piece (after_first (slice_split is_slash s)) ≡ true
later_pieces_are_names [] h = refl
later_pieces_are_names (b ∷ s) h =
    let later : (k : ℕ) → k < length s → ends_name_run_of slash dot s k ≡ false =
    λ k l. simp unary_clauses (simp unary_clauses at (h (suc k) (omega arith))) in
    by_test (is_slash b)
    (λ e. ap (λ ps. list_all is_name_piece (after_first ps)) (slice_split-cons_yes is_slash b s e)
    ∙ all_name_pieces s (rw e at (h 0 (omega arith))) (later_pieces_are_names s later))
    (λ e. ap (λ ps. list_all is_name_piece (after_first ps)) (slice_split-cons_no is_slash b s e)
    ∙ ap (list_all is_name_piece) (after_first-onto b (slice_split is_slash s))
    ∙ later_pieces_are_names s later)

-- if a name starts at index 0, and no run of names ends, all pieces are names
pub only_name_pieces : (s : List ℕ) → no_name_starts_at slash dot s 0 ≡ false
    → ((k : ℕ) → k < length s → ends_name_run_of slash dot s k ≡ false)
    → has_only_name_pieces s ≡ true
only_name_pieces s h k = all_name_pieces s h (later_pieces_are_names s k)

-- if n is 1 for a path s with a root, and otherwise 0, and all pieces of s after its first n bytes
-- are names, then s is a path of names only
pub names_only_without_root : (s : List ℕ) (n : ℕ) → n ≡ from_bool (is_rooted s)
    → has_only_name_pieces (drop n s) ≡ true → is_names_only s ≡ true
names_only_without_root s n e h =
    grind arith
