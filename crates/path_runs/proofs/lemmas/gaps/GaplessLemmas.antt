-- A path is its own canonical form if and only if it has at most one byte, or has no gap and ends
-- in a component. A gap is a slash before an empty piece or the piece `.`.
use Rattle.std.proofs.Common.{◌≡◌, ℕ, zero, suc, ◌+◌, ◌<◌, ◌≤◌, true, nat_eq, eqb, List, [], ◌∷◌}
use Rattle.std.proofs.Common.{length, take, drop, sym, ap, ◌∙◌, arith, eqb-true, eq-eqb, ltb-true}
use Rattle.std.proofs.Common.{ltb-false, length-append, length-take-le, take_all, ◌⊎◌, inl, inr}
use Rattle.std.proofs.lemmas.Bool.{and_parts, lt-ltb}
use Rattle.std.proofs.Math.Dec.{ltb}
use Rattle.std.specs.Prelude.{IsTrue}
use Rattle.unix_path.specs.Parts.{values}
use Rattle.unix_path.specs.Rest.{rest}
use Rattle.unix_path.specs.Scan.{EndsInPart}
use Rattle.unix_bytes.proofs.lemmas.lists.ListLemmas.{by_test}
use Rattle.unix_path.proofs.lemmas.steps.SpanLemmas.{rest-trimmed, trims_end}
use Rattle.path_runs.specs.Gaps.{is_gap, slashed_parts}
use Rattle.path_runs.specs.Spelling.{spelling_of}
use Rattle.path_runs.proofs.lemmas.gaps.FirstGapLemmas.{is_gap-after_start, no_parts_after_end}
use Rattle.path_runs.proofs.lemmas.gaps.FirstGapLemmas.{slashed_parts-filler, slashed_parts-slash}
use Rattle.path_runs.proofs.lemmas.gaps.FirstGapLemmas.{FirstGap}
use Rattle.path_runs.proofs.lemmas.spelling.LeanLemmas.{slashed_parts-length, spelling_of-shortest}
use Rattle.path_runs.proofs.lemmas.gaps.GapSpellingLemmas.{spelling_of-run, spelling_of-whole}
use Rattle.std.proofs.lemmas.Grind.{common_steps}
use Rattle.path_runs.proofs.lemmas.gaps.GapSpellingLemmas.{spelling_of-short}

-- if s begins with a gap, the components of s without the root, each with a slash before it, have
-- fewer bytes in total than s
first_gap-longer : (s : List ℕ) → 0 < length s → is_gap s 0 ≡ true
    → length (slashed_parts s) < length s
first_gap-longer [] l g = absurd (omega arith)
first_gap-longer (x ∷ []) l g =
    let e = (and_parts (eqb x 47) _ g).0 in
    grind (arith, slashed_parts-slash x [] e, no_parts_after_end [] [] 0 (omega arith))
first_gap-longer (x ∷ y ∷ s) l g =
    let both = and_parts (eqb x 47) _ g in
    omega (
      arith,
      ap length (slashed_parts-slash x (y ∷ s) both.0),
      ap length (slashed_parts-filler (y ∷ s) 0 (omega arith) both.1),
      slashed_parts-length s,
    )

-- if a gap begins at index n of s, the components after it, each with a slash before it, have fewer
-- bytes in total than s has from n on
gap-longer : (s : List ℕ) (n : ℕ) → n < length s → is_gap s n ≡ true
    → length (slashed_parts (drop n s)) + n < length s
gap-longer [] n l g = absurd (omega arith)
gap-longer (x ∷ s) n l g =
    grind (arith, common_steps, gap-longer s n, first_gap-longer, is_gap-after_start)

-- if n is the index of a gap of s, or the length of s, the components after n, each with a slash
-- before it, have at most as many bytes in total as s has from n on
pub gap_or_end-length : (s : List ℕ) (n : ℕ) → n ≤ length s → (n < length s → is_gap s n ≡ true)
    → n + length (slashed_parts (drop n s)) ≤ length s
gap_or_end-length s n l g = by_test (ltb n (length s))
    (λ e.
    let some = ltb-true n (length s) e in
    omega (arith, gap-longer s n some (g some)))
    (λ e.
    let all : length s ≤ n = ltb-false n (length s) e in
    omega (arith, ap length (no_parts_after_end [] s n all)))

-- if a path has at least two bytes, ends in a component and has a gap, it isn't its own canonical
-- form
gap_respelled : (s : List ℕ) (n : ℕ) → 1 < length s → EndsInPart s → FirstGap s n
    → n < length s → s ≡ spelling_of (values s) → ⊥
gap_respelled s n l ends h some own =
    let is = ap length (own ∙ spelling_of-run s n l ends h) in
    grind (arith, length-append, length-take-le, gap-longer)

-- if t is s without its trailing filler, has the components of s and is shorter than s, then s
-- isn't its own canonical form
pub tail_respelled : (s t : List ℕ) → t ≡ rest s 0 0 → values t ≡ values s → length t < length s
    → s ≡ spelling_of (values s) → ⊥
tail_respelled s t e same l own =
    grind (arith, spelling_of-shortest)

-- if t is s without its trailing filler, and as long as s, then t is s
pub rest-all : (s t : List ℕ) → t ≡ rest s 0 0 → length s ≤ length t → t ≡ s
rest-all s t e l = grind (arith, common_steps, trims_end s, rest-trimmed, length-take-le)

-- if a path has at least two bytes and ends in a component, it is its own canonical form if and
-- only if it has no gap
pub own_if_gapless : (s : List ℕ) (n : ℕ) → 1 < length s → EndsInPart s → FirstGap s n
    → (IsTrue (nat_eq n (length s)) → s ≡ spelling_of (values s))
    × (s ≡ spelling_of (values s) → IsTrue (nat_eq n (length s)))
own_if_gapless s n l ends h = (
  λ e. sym (spelling_of-whole s n ends h (inr (omega arith, eqb-true n (length s) e))),
  λ own. by_test (ltb n (length s))
      (λ e. absurd (gap_respelled s n l ends h (ltb-true n (length s) e) own))
      (λ e. eq-eqb n (length s) (omega (arith, ltb-false n (length s) e, h.in_range))),
)

pub ruleset is_canonical_cases = (
  tail_respelled,
  rest-all,
  spelling_of-short,
  lt-ltb,
  own_if_gapless,
)

pub ruleset parts_len_cases = (length-append, gap_or_end-length, no_parts_after_end)
