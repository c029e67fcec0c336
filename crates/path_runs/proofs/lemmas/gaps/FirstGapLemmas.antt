-- The first gap of a string. A gap is a slash before an empty piece or the piece `.`. The bytes
-- before the first gap are the first piece and then components, each after a slash.
-- `slashed_parts s` are the components of s without a leading root or `.`, each after a slash.
use Rattle.std.proofs.Common.{◌≡◌, ℕ, zero, suc, ◌+◌, ◌-◌, ◌<◌, ◌≤◌, true, false, eqb}
use Rattle.std.proofs.Common.{List, [], ◌∷◌, ◌++◌, length, take, drop, map, refl, sym, ap}
use Rattle.std.proofs.Common.{ap₂, ◌∙◌, eqb-true, arith, append-nil, drop-cons, length-drop}
use Rattle.std.proofs.Common.{take_all}
use Rattle.std.specs.Prelude.{slice_range}
use Rattle.std.specs.List.{flat_map, position_or_len}
use Rattle.std.proofs.lemmas.Bool.{and_parts}
use Rattle.std.proofs.lemmas.List.{drop_all}
use Rattle.unix_path.specs.Parts.{Part, inner_parts, is_slash, slash, value_bytes}
use Rattle.unix_path.specs.Scan.{is_filler}
use Rattle.unix_bytes.proofs.lemmas.lists.ListLemmas.{by_test, drop-suc_cons}
use Rattle.unix_path.proofs.lemmas.filler.FillerLemmas.{inner_parts_not_filler}
use Rattle.unix_path.proofs.lemmas.filler.FillerLemmas.{inner_parts_filler_at}
use Rattle.unix_path.proofs.lemmas.parts.PieceLemmas.{first_piece, first_piece-slash}
use Rattle.unix_path.proofs.lemmas.parts.PieceLemmas.{first_piece-other, position_or_len-slash}
use Rattle.unix_path.proofs.lemmas.parts.PieceLemmas.{position_or_len-other}
use Rattle.unix_path.proofs.lemmas.parts.PlaceLemmas.{values-inner_parts}
use Rattle.unix_path.proofs.lemmas.parts.ValueLemmas.{value_bytes-piece}
use Rattle.path_runs.specs.Gaps.{is_gap, slashed_parts, IsPartStart}

-- if byte i of s is filler, the bytes of s from i on and those from i + 1 on have the same
-- components, apart from a leading root or `.`
pub slashed_parts-filler : (s : List ℕ) (i : ℕ) → i < length s → is_filler s i ≡ true
    → slashed_parts (drop i s) ≡ slashed_parts (drop (i + 1) s)
unfolding slashed_parts
slashed_parts-filler s i l e = ap (flat_map (λ v. slash ∷ value_bytes v))
    (sym (values-inner_parts (0 + i) (drop i s))
    ∙ ap (map (λ (p : Part). p.value)) (inner_parts_filler_at 0 s i l e)
    ∙ values-inner_parts (0 + (i + 1)) (drop (i + 1) s))

-- if s isn't empty and begins with a component that is neither the root nor `.`, the components of
-- s, each after a slash, are a slash, the first piece of s, and then the components after that
-- piece, each after a slash
slashed_parts-not_filler : (s : List ℕ) → 0 < length s → is_filler s 0 ≡ false
    → slashed_parts s ≡ slash ∷ (first_piece s ++ slashed_parts
    (drop (position_or_len is_slash s) s))
unfolding slashed_parts
slashed_parts-not_filler s l e =
    let n = position_or_len is_slash s in
    simp (inner_parts_not_filler, value_bytes-piece, values-inner_parts)

-- a gap of x ∷ s begins at index i + 1 if and only if a gap of s begins at index i
pub is_gap-after_start : (x : ℕ) (s : List ℕ) (i : ℕ) → is_gap (x ∷ s) (suc i) ≡ is_gap s i
is_gap-after_start x s i = grind arith

-- `at` is the index of the first gap of s, or the length of s if there is no gap
pub record FirstGap (s : List ℕ) (at : ℕ) : Type 0 where
  pub in_range : at ≤ length s
  pub gap : at < length s → is_gap s at ≡ true
  pub none_before : (i : ℕ) → i < at → is_gap s i ≡ false

-- if the first gap of x ∷ s is at index n + 1, the first gap of s is at index n; in a string
-- without a gap, the end counts as one
FirstGap-after_start : (x : ℕ) (s : List ℕ) (n : ℕ) → FirstGap (x ∷ s) (suc n) → FirstGap s n
FirstGap-after_start x s n h = record {
  in_range = omega (arith, h.in_range);
  gap = λ l. sym (is_gap-after_start x s n) ∙ h.gap (omega arith);
  none_before = λ i l. sym (is_gap-after_start x s i) ∙ h.none_before (suc i) (omega arith);
}

-- if x is a slash, and no gap of x ∷ s begins at index 0, then s isn't empty and begins with a
-- component
component_after_slash : (x : ℕ) (s : List ℕ) → eqb x 47 ≡ true → is_gap (x ∷ s) 0 ≡ false
    → (0 < length s) × (is_filler s 0 ≡ false)
component_after_slash x [] e g = absurd (let d : true ≡ false = rw e at g in cc)
component_after_slash x (y ∷ s) e g = (omega arith, rw e at g)

-- if x is a slash, the first piece of x ∷ s, which is empty, and the components after that piece,
-- each after a slash, are the components of x ∷ s without the root, each after a slash
pub first_slash : (x : ℕ) (s : List ℕ) → eqb x 47 ≡ true
    → first_piece (x ∷ s) ++ slashed_parts (drop (position_or_len is_slash (x ∷ s)) (x ∷ s))
    ≡ slashed_parts (x ∷ s)
first_slash x s e = simp (first_piece-slash, position_or_len-slash)

-- if x is a slash, x ∷ s and s have the same components, apart from a leading root or `.`
pub slashed_parts-slash : (x : ℕ) (s : List ℕ) → eqb x 47 ≡ true
    → slashed_parts (x ∷ s) ≡ slashed_parts s
slashed_parts-slash x s e = slashed_parts-filler (x ∷ s) 0 (omega arith) (rw e refl)

-- if n is the index of the first gap of s, or the length of s if there is none, then the first
-- piece of s and the components after that piece, each after a slash, are the same bytes as the
-- first n bytes of s and the components after them, each after a slash
pub before_first_gap : (s : List ℕ) (n : ℕ) → FirstGap s n
    → first_piece s ++ slashed_parts (drop (position_or_len is_slash s) s)
    ≡ take n s ++ slashed_parts (drop n s)
before_first_gap [] n h = grind arith
before_first_gap (x ∷ s) zero h = grind (arith, first_slash, and_parts)
before_first_gap (x ∷ s) (suc n) h = by_test (eqb x 47)
    (λ e.
    let not_filler = component_after_slash x s e (h.none_before 0 (omega arith)) in
    first_slash x s e ∙ slashed_parts-slash x s e
    ∙ slashed_parts-not_filler s not_filler.0 not_filler.1
    ∙ ap₂ (λ b u. b ∷ u) (sym (eqb-true x 47 e))
    (before_first_gap s n (FirstGap-after_start x s n h)))
    (λ e.
    let m = position_or_len is_slash s in
    ap₂ (λ p k. p ++ slashed_parts (drop k (x ∷ s))) (first_piece-other x s e)
    (position_or_len-other x s e)
    ∙ ap (λ u. x ∷ (first_piece s ++ slashed_parts u)) (drop-suc_cons m x s)
    ∙ ap (λ u. x ∷ u) (before_first_gap s n (FirstGap-after_start x s n h)))

-- if s isn't empty and begins with a component that is neither the root nor `.`, and n is the index
-- of its first gap, or its length if it has none, then the components of s, each after a slash, are
-- a slash, the first n bytes of s, and the components after them, each after a slash
pub component_before_gap : (s : List ℕ) (n : ℕ) → 0 < length s → is_filler s 0 ≡ false
    → FirstGap s n
    → slashed_parts s ≡ (slash ∷ take n s) ++ slashed_parts (drop n s)
component_before_gap s n l e h = grind (arith, slashed_parts-not_filler, before_first_gap)

-- if i is at least the length of s, no component follows index i of s, so nothing is appended to a
pub no_parts_after_end : (a s : List ℕ) (i : ℕ) → length s ≤ i → a ++ slashed_parts (drop i s) ≡ a
unfolding slashed_parts inner_parts
no_parts_after_end a s i l = simp (drop_all, append-nil)

-- if a component begins at `start`, the slice from the slash before it to index `start + n`,
-- exclusive, is this slash and the n bytes after it
pub slice_from_slash : (s : List ℕ) (start n : ℕ) → start < length s → IsPartStart s start
    → slice_range s (start - 1) (start + n) ≡ slash ∷ take n (drop start s)
slice_from_slash s start n l part = grind (arith, drop-cons)

pub slice_range-from : (s : List ℕ) (i : ℕ) → slice_range s i (length s) ≡ drop i s
slice_range-from s i = take_all (length s - i) (drop i s) (omega (arith, length-drop i s))
