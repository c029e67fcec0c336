-- The run at the beginning of a path, in a key: a `..`, or names separated by single slashes.
use Rattle.std.proofs.Common.{◌≡◌, ◌<◌, ◌≤◌, ◌+◌, ℕ, true, false, cond, eqb, List, []}
use Rattle.std.proofs.Common.{◌∷◌, ◌++◌, length, take, drop, map, get_or, refl, sym, ap, ap₂, ◌∙◌}
use Rattle.std.proofs.Common.{subst, arith, append-nil, eq-eqb}
use Rattle.std.proofs.Common.{take-append-drop, ⊎_elim}
use Rattle.std.proofs.lemmas.Bool.{cases_lt, false≢true}
use Rattle.std.proofs.lemmas.List.{take_all, drop_all, drop_more, map-append}
use Rattle.std.proofs.lemmas.List.Elements.{filter-append}
use Rattle.std.proofs.lemmas.List.Splits.{slice_split-cons_yes, slice_split-cons_no}
use Rattle.std.specs.List.{AllByRecursion, slice_split, onto_first, position_or_len}
use Rattle.unix_path.specs.CommonDir.{inner_values}
use Rattle.unix_path.specs.Parts.{ParentDir, Normal, Part, is_slash, slash}
use Rattle.unix_path.specs.Parts.{inner_parts, values}
use Rattle.unix_path.specs.Scan.{starts_with_parent_dir, is_filler}
use Rattle.unix_bytes.proofs.lemmas.lists.ListLemmas.{by_test}
use Rattle.unix_path.proofs.lemmas.order.CommonPrefixLemmas.{inner_values-nil}
use Rattle.unix_path.proofs.lemmas.steps.LeadLemmas.{not_filler_no_slash, first_value-name}
use Rattle.unix_path.proofs.lemmas.steps.LeadLemmas.{length-parent_first}
use Rattle.unix_path.proofs.lemmas.steps.LeadLemmas.{values-parent_first}
use Rattle.unix_path.proofs.lemmas.parts.PartLemmas.{parts-name}
use Rattle.unix_path.proofs.lemmas.parts.PieceLemmas.{first_piece, slice_split-first}
use Rattle.path_runs.proofs.lemmas.spelling.PieceValueLemmas.{inner_values-pieces}
use Rattle.path_keys.specs.Keys.{key_of}
use Rattle.path_keys.proofs.lemmas.values.Fitting.{AllFit, IsName}
use Rattle.path_keys.specs.NameBytes.{coded}
use Rattle.unix_path.specs.NameRunEnds.{IsNameRunEnd}
use Rattle.path_keys.specs.PathRuns.{run_key}
use Rattle.unix_path.proofs.lemmas.name_run_ends.NameRunEndLemmas.{separator_at_end, no_end_before}
use Rattle.path_keys.proofs.lemmas.reading.FitLemmas.{values-fit}
use Rattle.path_keys.proofs.lemmas.values.KeyLemmas.{key_of-cons, key_of-append}
use Rattle.unix_path.proofs.lemmas.filler.FillerLemmas.{values-not_filler}
use Rattle.path_keys.proofs.lemmas.writing.PieceCodeLemmas.{later, later_names, some_piece}
use Rattle.path_keys.proofs.lemmas.writing.PieceCodeLemmas.{stretch_key}

-- if s begins neither with filler nor with `..`, its components are its first piece, which is a
-- name, and the inner components after this piece
values-first : (s : List ℕ) → 0 < length s → is_filler s 0 ≡ false → starts_with_parent_dir s
    ≡ false
    → values s ≡ Normal (first_piece s) ∷ map (λ (p : Part). p.value)
    (inner_parts (position_or_len is_slash s) (drop (position_or_len is_slash s) s))
unfolding values
values-first s l not_filler e =
    ap (map (λ (p : Part). p.value)) (parts-name s l (not_filler_no_slash s not_filler))
    ∙ ap (λ v. v ∷ map (λ (p : Part). p.value)
    (inner_parts (position_or_len is_slash s) (drop (position_or_len is_slash s) s)))
    (first_value-name s l not_filler e)

-- if s begins neither with filler nor with `..`, its first piece is a name
first_name : (s : List ℕ) → 0 < length s → is_filler s 0 ≡ false → starts_with_parent_dir s ≡ false
    → IsName (first_piece s)
first_name s l not_filler e = (subst (AllFit true) (values-first s l not_filler e) (values-fit s)).0

-- the first n bytes of s are `..` or names, and the rest of s has all components after them
pub record IsRun (s : List ℕ) (n : ℕ) : Type 0 where
  pub some : 0 < n
  pub in_range : n ≤ length s
  pub split : key_of (inner_values s) ≡ run_key s n ++ key_of (inner_values (drop n s))

-- n is the index of the first slash of s after which no name begins, or the length of s if it has
-- none
abbrev pub FirstStop : List ℕ → ℕ → Type 0
FirstStop = IsNameRunEnd 47 46

-- if s begins with `..`, its first two bytes are a run
pub run-up : (s : List ℕ) → is_filler s 0 ≡ false → starts_with_parent_dir s ≡ true → IsRun s 2
run-up s not_filler e = record {
  some = omega arith;
  in_range = length-parent_first s e;
  split = ap key_of (sym (values-not_filler s not_filler) ∙ values-parent_first s e)
      ∙ key_of-cons ParentDir (inner_values (drop 2 s))
      ∙ ap (λ c. c ++ key_of (inner_values (drop 2 s)))
      (sym (ap (λ b. cond b (0 ∷ 3 ∷ []) (map coded (take 2 s) ++ 0 ∷ [])) e));
}

-- the pieces of t, a slash and r together are the pieces of t and then the pieces of r
pub slice_split-append : (t r : List ℕ)
    → slice_split is_slash (t ++ slash ∷ r) ≡ slice_split is_slash t ++ slice_split is_slash r
slice_split-append [] r = refl
slice_split-append (x ∷ t) r = by_test (eqb x 47)
    (λ e. slice_split-cons_yes is_slash x (t ++ slash ∷ r) e
    ∙ ap (λ ps. [] ∷ ps) (slice_split-append t r)
    ∙ sym (ap (λ ps. ps ++ slice_split is_slash r) (slice_split-cons_yes is_slash x t e)))
    (λ e.
    let some = some_piece t in
    slice_split-cons_no is_slash x (t ++ slash ∷ r) e
    ∙ ap (onto_first x) (slice_split-append t r ∙ ap (λ ps. ps ++ slice_split is_slash r) some.2)
    ∙ sym (ap (λ ps. ps ++ slice_split is_slash r)
    (slice_split-cons_no is_slash x t e ∙ ap (onto_first x) some.2)))

-- the inner components of t, a slash and r together are those of t and then those of the slash and
-- r
pub inner_values-cut : (t r : List ℕ)
    → inner_values (t ++ slash ∷ r) ≡ inner_values t ++ inner_values (slash ∷ r)
inner_values-cut t r =
    grind (arith, inner_values-pieces, slice_split-append, filter-append, map-append)

-- if the run of names at the beginning of s ends at index n within s, there is a slash at index n
cut_at : (s : List ℕ) (n : ℕ) → FirstStop s n → n < length s
    → drop n s ≡ slash ∷ drop (n + 1) s
cut_at s n h l = drop_more s n 0 l
    ∙ ap (λ b. b ∷ drop (n + 1) s) (separator_at_end 47 46 s n h l)

-- if the run of names at the beginning of s ends at index n, the pieces of s begin with the pieces
-- p and ps of the first n bytes
whole_pieces : (s : List ℕ) (n : ℕ) → FirstStop s n → (p : List ℕ) (ps : List (List ℕ))
    → slice_split is_slash (take n s) ≡ p ∷ ps
    → (qs : List (List ℕ)) × (slice_split is_slash s ≡ p ∷ (ps ++ qs))
whole_pieces s n h p ps e = ⊎_elim
    (λ inside. (
      slice_split is_slash (drop (n + 1) s),
      ap (slice_split is_slash) (sym (take-append-drop n s)
          ∙ ap (λ r. take n s ++ r) (cut_at s n h inside))
          ∙ slice_split-append (take n s) (drop (n + 1) s)
          ∙ ap (λ qs. qs ++ slice_split is_slash (drop (n + 1) s)) e,
    ))
    (λ past. (
      [],
      ap (slice_split is_slash) (sym (take_all n s past)) ∙ e
          ∙ ap (λ qs. p ∷ qs) (sym (append-nil ps)),
    ))
    (cases_lt n (length s))

-- if the run of names at the beginning of s ends at index n, the first n bytes have the same first
-- piece as s
first_same : (s : List ℕ) (n : ℕ) → FirstStop s n
    → (ps : List (List ℕ)) × (slice_split is_slash (take n s) ≡ first_piece s ∷ ps)
first_same s n h =
    let some = some_piece (take n s) in
    let rest = whole_pieces s n h some.0 some.1 some.2 in
    let whole = sym rest.1 ∙ slice_split-first s in
    let same : some.0 ≡ first_piece s = cc in
    (some.1, some.2 ∙ ap (λ p. p ∷ some.1) same)

-- if the run of names at the beginning of s ends at index n, the inner components of s are those of
-- the first n bytes and then those of the bytes from n on
split_at : (s : List ℕ) (n : ℕ) → FirstStop s n
    → inner_values s ≡ inner_values (take n s) ++ inner_values (drop n s)
split_at s n h = ⊎_elim
    (λ inside.
    let cut = cut_at s n h inside in
    ap inner_values (sym (take-append-drop n s) ∙ ap (λ r. take n s ++ r) cut)
    ∙ inner_values-cut (take n s) (drop (n + 1) s)
    ∙ ap (λ r. inner_values (take n s) ++ inner_values r) (sym cut))
    (λ past.
    sym (ap₂ (λ t r. inner_values t ++ inner_values r) (take_all n s past) (drop_all n s past)
    ∙ ap (λ vs. inner_values s ++ vs) inner_values-nil ∙ append-nil (inner_values s)))
    (cases_lt n (length s))

-- if s is not empty, and the run of names at its beginning ends at index 0, s begins with a slash
first_stops : (s : List ℕ) (n : ℕ) → 0 < length s → FirstStop s n → n ≤ 0
    → eqb (get_or s 0 0) 47 ≡ true
first_stops s n l h none = grind (arith, eq-eqb, separator_at_end)

-- if s begins neither with filler nor with `..`, and the run of names at its beginning ends at
-- index n, the first n bytes of s are a run
pub run-names : (s : List ℕ) (n : ℕ) → 0 < length s → is_filler s 0 ≡ false
    → starts_with_parent_dir s ≡ false → FirstStop s n → IsRun s n
run-names s n l not_filler e h =
    let t = take n s in
    let first = first_same s n h in
    let names : AllByRecursion IsName (slice_split is_slash t) =
    subst (AllByRecursion IsName) (sym first.1) (
      first_name s l not_filler e,
      subst (λ ps. AllByRecursion IsName (later ps)) first.1
          (later_names t (no_end_before 47 46 s n h)),
    ) in
    record {
      some = ⊎_elim (λ some. some) (λ none. absurd (false≢true
          (sym (not_filler_no_slash s not_filler) ∙ first_stops s n l h none)))
          (cases_lt 0 n);
      in_range = h.in_range;
      split = ap key_of (split_at s n h)
          ∙ key_of-append (inner_values t) (inner_values (drop n s))
          ∙ ap (λ c. c ++ key_of (inner_values (drop n s)))
          (stretch_key t names ∙ sym (ap (λ b. cond b (0 ∷ 3 ∷ []) (map coded t ++ 0 ∷ [])) e));
    }
