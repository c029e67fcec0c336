-- The canonical form of a path is its bytes up to the first gap, followed by the components after
-- that gap. A gap is a slash before an empty piece or the piece `.`.
use Rattle.std.proofs.Common.{◌≡◌, ℕ, ◌<◌, ◌≤◌, true, false, eqb, List, [], ◌∷◌, ◌++◌, length, take}
use Rattle.std.proofs.Common.{drop, map, get_or, sym, ap, ap₂, ◌∙◌, append-nil}
use Rattle.std.proofs.Common.{eqb-true, arith, ◌⊎◌, inl, inr}
use Rattle.std.specs.List.{position_or_len}
use Rattle.unix_path.specs.Parts.{Part, Value, RootDir, is_slash, slash, inner_parts, value_bytes}
use Rattle.unix_path.specs.Parts.{values}
use Rattle.unix_path.specs.Rest.{rest}
use Rattle.unix_path.specs.Scan.{EndsInPart}
use Rattle.unix_bytes.proofs.lemmas.lists.ListLemmas.{by_test}
use Rattle.unix_path.proofs.lemmas.parts.PartLemmas.{parts-name, parts-root, values-nil}
use Rattle.unix_path.proofs.lemmas.parts.PieceLemmas.{first_piece}
use Rattle.unix_path.proofs.lemmas.parts.PlaceLemmas.{values-inner_parts, parts_end}
use Rattle.unix_path.proofs.lemmas.steps.SpanLemmas.{parts_end-whole, rest-trimmed, trims_end}
use Rattle.unix_path.proofs.lemmas.parts.ValueLemmas.{first_value, value_bytes-first, no_root_first}
use Rattle.path_runs.specs.Gaps.{slashed_parts}
use Rattle.path_runs.specs.Spelling.{slash_each, slashed_bytes, spelling_of}
use Rattle.path_runs.proofs.lemmas.gaps.FirstGapLemmas.{first_slash, before_first_gap}
use Rattle.path_runs.proofs.lemmas.gaps.FirstGapLemmas.{no_parts_after_end, FirstGap}
use Rattle.path_runs.proofs.lemmas.gaps.FirstGapLemmas.{slashed_parts-slash}
use Rattle.path_runs.proofs.lemmas.spelling.SpellLemmas.{spelling_of-cons, spelling_of-nil}
use Rattle.path_runs.proofs.lemmas.spelling.SpellLemmas.{spelling_of-root, spelling_of-rooted}
use Rattle.std.proofs.lemmas.Grind.{common_steps}

-- v and vs with slashes between them are the bytes of v, followed by the components vs, each after
-- a slash
pub slashed_bytes-cons : (v : Value) (vs : List Value)
    → slashed_bytes (v ∷ vs) ≡ value_bytes v ++ slash_each vs
slashed_bytes-cons v [] = sym (append-nil (value_bytes v))
slashed_bytes-cons v (w ∷ vs) = ap (λ u. value_bytes v ++ slash ∷ u) (slashed_bytes-cons w vs)

-- if a path isn't empty and has no root, its canonical form is its first piece, followed by the
-- components after that piece, each after a slash
pub spelling_of-name : (s : List ℕ) → 0 < length s → eqb (get_or s 0 0) 47 ≡ false
    → spelling_of (values s)
    ≡ first_piece s ++ slashed_parts (drop (position_or_len is_slash s) s)
unfolding values slashed_parts
spelling_of-name s l e =
    let n = position_or_len is_slash s in
    let p = first_piece s in
    let vs : List Value = map (λ (q : Part). q.value) (inner_parts n (drop n s)) in
    ap (λ ps. spelling_of (map (λ (q : Part). q.value) ps)) (parts-name s l e)
    ∙ spelling_of-cons (first_value p) vs (no_root_first p)
    ∙ slashed_bytes-cons (first_value p) vs
    ∙ ap₂ (λ b ws. b ++ slash_each ws) (value_bytes-first p) (values-inner_parts n (drop n s))

-- if a rooted path has at least two bytes and ends in a component, its canonical form is its
-- components after the root, each after a slash
spelling_of-after_root : (x : ℕ) (s : List ℕ) → eqb x 47 ≡ true → 1 < length (x ∷ s)
    → EndsInPart (x ∷ s) → spelling_of (values (x ∷ s)) ≡ slashed_parts s
unfolding values slashed_parts
spelling_of-after_root x s e l ends =
    let is = parts-root (x ∷ s) (eqb-true x 47 e) in
    let vs : List Value = map (λ (q : Part). q.value) (inner_parts 1 s) in
    ap (λ ps. spelling_of (map (λ (q : Part). q.value) ps)) is ∙ spelling_of-root vs
    ∙ by (inner_parts 1 s) (sym (parts_end-whole (x ∷ s) ends) ∙ ap parts_end is)
    ∙ ap slash_each (values-inner_parts 1 s)
  where
    by : (ps : List Part)
        → length (x ∷ s) ≡ parts_end (record { start = 0; end = 1; value = RootDir } ∷ ps)
        → slash ∷ slashed_bytes (map (λ q. q.value) ps) ≡ slash_each (map (λ q. q.value) ps)
    by [] end = absurd (omega (arith, l))
    by (p ∷ ps) end = ap (λ u. slash ∷ u) (slashed_bytes-cons p.value (map (λ q. q.value) ps))

-- if s has at least two bytes and ends in a component, its canonical form is the bytes of s before
-- its first gap, or all if there is none, followed by the components after that gap, each after a
-- slash
pub spelling_of-run : (s : List ℕ) (n : ℕ) → 1 < length s → EndsInPart s → FirstGap s n
    → spelling_of (values s) ≡ take n s ++ slashed_parts (drop n s)
spelling_of-run [] n l ends h = absurd (omega arith)
spelling_of-run (x ∷ s) n l ends h = by_test (eqb x 47)
    (λ e. spelling_of-after_root x s e l ends ∙ sym (slashed_parts-slash x s e)
    ∙ sym (first_slash x s e) ∙ before_first_gap (x ∷ s) n h)
    (λ e. spelling_of-name (x ∷ s) (omega arith) e ∙ before_first_gap (x ∷ s) n h)

-- a path of at most one byte is its own canonical form
pub spelling_of-short : (s : List ℕ) → length s < 2 → spelling_of (values s) ≡ s
unfolding slashed_parts inner_parts
spelling_of-short [] l = ap spelling_of values-nil ∙ spelling_of-nil
spelling_of-short (x ∷ []) l =
    grind (arith, eqb-true, spelling_of-name, spelling_of-rooted)
spelling_of-short (x ∷ y ∷ s) l = absurd (omega arith)

-- if a path is empty or ends in a component, and has no gap or at most one byte, it is its own
-- canonical form
pub spelling_of-whole : (s : List ℕ) (n : ℕ) → EndsInPart s → FirstGap s n
    → (length s < 2) ⊎ ((2 ≤ length s) × (n ≡ length s)) → spelling_of (values s) ≡ s
spelling_of-whole s n ends h (inl short) = spelling_of-short s short
spelling_of-whole s n ends h (inr whole) =
    grind (arith, common_steps, spelling_of-run s n whole.0 ends h, no_parts_after_end)

-- a path without its trailing filler is empty or ends in a component
pub rest-ends : (s t : List ℕ) → t ≡ rest s 0 0 → EndsInPart t
rest-ends s t e = grind (arith, trims_end s, rest-trimmed)

pub ruleset trimmed_cases = rest-ends
