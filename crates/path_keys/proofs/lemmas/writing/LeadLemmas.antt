-- The root or the `.` with which a path begins, in a key.
use Rattle.std.proofs.Common.{◌≡◌, ◌<◌, ℕ, true, false, eqb, List, [], ◌∷◌, ◌++◌, length}
use Rattle.std.proofs.Common.{get_or, ap, ap₂, ◌∙◌, arith, eq-eqb, ne_eqb, ◌&&◌}
use Rattle.std.proofs.lemmas.List.{nil_from_length}
use Rattle.std.specs.List.{slice_split}
use Rattle.unix_path.specs.CommonDir.{inner_values}
use Rattle.unix_path.specs.Parts.{RootDir, CurDir, is_slash, is_rooted, values}
use Rattle.unix_path.specs.Scan.{is_filler}
use Rattle.unix_path.proofs.lemmas.order.CommonPrefixLemmas.{inner_values-nil}
use Rattle.unix_path.proofs.lemmas.filler.FillerLemmas.{first_piece_dot, values-not_filler}
use Rattle.unix_path.proofs.lemmas.parts.PartLemmas.{values-nil}
use Rattle.unix_path.proofs.lemmas.parts.PieceLemmas.{slice_split-first}
use Rattle.path_runs.proofs.lemmas.joins.LeadLemmas.{dot_first, lead_by, values-lead}
use Rattle.path_keys.specs.Keys.{key_of}
use Rattle.path_keys.proofs.lemmas.values.KeyLemmas.{key_of-nil, key_of-cons}

-- if s is empty, its key is the key of its inner components
pub lead-none : (s : List ℕ) → length s ≡ 0 → key_of (values s) ≡ key_of (inner_values s)
lead-none s e = grind (arith, nil_from_length, values-nil, inner_values-nil)

-- if s begins neither with a slash nor with a piece `.`, its key is the key of its inner components
pub lead-not_filler : (s : List ℕ) → is_filler s 0 ≡ false
    → key_of (values s) ≡ key_of (inner_values s)
lead-not_filler s not_filler = ap key_of (values-not_filler s not_filler)

-- if s begins with a slash, its key is 00 01 and then the key of its inner components
pub lead-root : (s : List ℕ) → 0 < length s → get_or s 0 0 ≡ 47
    → key_of (values s) ≡ (0 ∷ 1 ∷ []) ++ key_of (inner_values s)
lead-root [] l e = absurd (omega arith)
lead-root (x ∷ s) l e =
    let rooted : is_rooted (x ∷ s) ≡ true = eq-eqb x 47 e in
    ap key_of (values-lead (x ∷ s)
    ∙ ap (λ c. lead_by c (dot_first (slice_split is_slash (x ∷ s))) ++ inner_values (x ∷ s)) rooted)
    ∙ key_of-cons RootDir (inner_values (x ∷ s))

-- if s begins with a piece `.`, its key is 00 02 and then the key of its inner components
pub lead-dot : (s : List ℕ) → 0 < length s → is_filler s 0 ≡ true → (get_or s 0 0 ≡ 47 → ⊥)
    → key_of (values s) ≡ (0 ∷ 2 ∷ []) ++ key_of (inner_values s)
lead-dot [] l filler e = absurd (omega arith)
lead-dot (x ∷ s) l filler e =
    let no_root : is_rooted (x ∷ s) ≡ false = ne_eqb x 47 e in
    let dotted : (eqb x 46 && eqb (get_or s 0 47) 47) ≡ true = rw no_root at filler in
    let first : dot_first (slice_split is_slash (x ∷ s)) ≡ true =
    ap dot_first (slice_split-first (x ∷ s)) ∙ first_piece_dot (x ∷ s) ∙ dotted in
    ap key_of (values-lead (x ∷ s)
    ∙ ap₂ (λ c d. lead_by c d ++ inner_values (x ∷ s)) no_root first)
    ∙ key_of-cons CurDir (inner_values (x ∷ s))

-- if s is empty, the key of its inner components is empty
pub none_remain : (s : List ℕ) → length s ≡ 0 → key_of (inner_values s) ≡ []
none_remain s e = ap (λ s. key_of (inner_values s)) (nil_from_length s e)
    ∙ ap key_of inner_values-nil ∙ key_of-nil
