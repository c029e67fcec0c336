-- A path has a NUL if and only if one of its components has one.
use Rattle.std.proofs.Common.{◌≡◌, ℕ, Bool, false, cond, eqb, ltb, ◌||◌, List, [], ◌∷◌, refl, sym}
use Rattle.std.proofs.Common.{ap, ◌∙◌, arith, rules}
use Rattle.std.specs.List.{count_by, join_with_byte, list_any, slice_split}
use Rattle.std.proofs.lemmas.List.Folds.{list_any-append}
use Rattle.std.proofs.lemmas.List.Sums.{sum_by-cons}
use Rattle.unix_path.specs.Parts.{Value, RootDir, is_slash, slash, value_bytes}
use Rattle.unix_path.specs.Parts.{values}
use Rattle.unix_path.proofs.lemmas.parts.ValueLemmas.{value_bytes-piece}
use Rattle.path_runs.specs.JoinLaws.{drop_leading}
use Rattle.path_runs.proofs.lemmas.joins.LeadLemmas.{drop_leading-values}
use Rattle.path_runs.proofs.lemmas.spelling.LeanLemmas.{join_with_byte-pieces}
use Rattle.path_runs.proofs.lemmas.spelling.PieceValueLemmas.{inner_values-pieces, names_of}
use Rattle.path_within.specs.Below.{has_nul, names_below}
use Rattle.path_within.proofs.lemmas.below.BoundLemmas.{sum_by-names_below}

-- the bytes of a component have a NUL
abbrev pub nul_in : Value → Bool
nul_in v = has_nul (value_bytes v)

-- pieces with slashes between them have a NUL if and only if one of the pieces has one
nul_pieces : (ps : List (List ℕ)) → has_nul (join_with_byte slash ps) ≡ list_any has_nul ps
nul_pieces [] = refl
nul_pieces (p ∷ []) = grind arith
nul_pieces (p ∷ q ∷ ps) =
    list_any-append (λ b. eqb b 0) p (slash ∷ join_with_byte slash (q ∷ ps))
    ∙ ap (λ b. has_nul p || b) (nul_pieces (q ∷ ps))

-- pieces have a NUL if and only if one of their components has one
nul_names : (ps : List (List ℕ)) → list_any has_nul ps ≡ list_any nul_in (names_of ps)
nul_names [] = refl
nul_names (p ∷ ps) = search (rules, value_bytes-piece p, nul_names ps)

-- dropping a leading root or `.` of vs does not change whether some component of vs has a NUL
nul_lead : (vs : List Value) → list_any nul_in (drop_leading vs) ≡ list_any nul_in vs
nul_lead (RootDir ∷ vs) = refl
nul_lead vs = refl

-- a path has a NUL if and only if one of its components has one
pub has_nul-values : (s : List ℕ) → has_nul s ≡ list_any nul_in (values s)
has_nul-values s =
    let ps = slice_split is_slash s in
    ap has_nul (sym (join_with_byte-pieces s)) ∙ nul_pieces ps ∙ nul_names ps
    ∙ ap (list_any nul_in) (sym (drop_leading-values s ∙ inner_values-pieces s))
    ∙ nul_lead (values s)

-- some component passes p if and only if the number of components that pass is not 0
list_any-count : (p : Value → Bool) (vs : List Value) → list_any p vs ≡ ltb 0 (count_by p vs)
list_any-count p [] = refl
list_any-count p (v ∷ vs) =
    grind (arith, sum_by-cons (λ v. cond (p v) 1 0) v vs, list_any-count p vs)

-- if no component of vs has a NUL, no name that remains of vs after resolving has one
pub no_nul-below : (vs : List Value) → list_any nul_in vs ≡ false
    → list_any nul_in (names_below vs) ≡ false
no_nul-below vs h = grind (arith, sum_by-names_below, list_any-count)
