-- The canonical form consists of bytes of the path: the bytes before the first gap, and gapless
-- runs. A gap is a slash before an empty piece or the piece `.`. A gapless run is a slash and the
-- components after it, up to the next gap or the end.
use Rattle.std.proofs.Common.{◌≡◌, ℕ, zero, suc, ◌+◌, ◌-◌, ◌<◌, false, List, ◌++◌}
use Rattle.std.proofs.Common.{length, drop, ◌≤◌, sym, ap, ap₂, ◌∙◌, eqb-true, arith}
use Rattle.std.proofs.Common.{drop-drop, length-drop, length-take-le}
use Rattle.std.specs.Prelude.{slice_index, slice_range}
use Rattle.unix_path.specs.Parts.{slash}
use Rattle.std.proofs.lemmas.Bool.{and_parts}
use Rattle.std.proofs.lemmas.List.{get_or-drop}
use Rattle.unix_path.specs.Scan.{is_filler}
use Rattle.unix_path.proofs.lemmas.filler.FillerLemmas.{is_filler-drop}
use Rattle.path_runs.specs.Gaps.{slashed_parts, IsPartStart}
use Rattle.path_runs.proofs.lemmas.gaps.FirstGapLemmas.{component_before_gap, FirstGap}
use Rattle.path_runs.proofs.lemmas.gaps.FirstGapLemmas.{slice_from_slash}

-- `run` is the component at index `start` and any number of components after it, with a slash
-- before each. The run ends at index `start - 1 + length run`, exclusive. The bytes of s from there
-- on have the remaining components, and are empty or begin with a slash.
pub record IsGaplessRun (s : List ℕ) (start : ℕ) (run : List ℕ) : Type 0 where
  pub more : 1 < length run
  pub in_range : start - 1 + length run ≤ length s
  pub gap : start - 1 + length run < length s
      → slice_index s (start - 1 + length run) ≡ slash
  pub same : slashed_parts (drop start s)
      ≡ run ++ slashed_parts (drop (start - 1 + length run) s)

-- if s isn't empty, and begins neither with a slash nor with the piece `.`, then n, the index of
-- the first gap of s (or its length, if it has no gap), is greater than 0
first_gap_positive : (s : List ℕ) (n : ℕ) → 0 < length s → is_filler s 0 ≡ false → FirstGap s n → 0
    < n
first_gap_positive s zero l e h = grind (arith, and_parts)
first_gap_positive s (suc n) l e h = omega arith

-- if a component of s begins at `start`, after a slash, and the first gap from `start` on, or the
-- end if there is none, is n bytes later, then the bytes from that slash up to that gap or end are
-- a gapless run
pub is_gapless_run : (s : List ℕ) (start n : ℕ) → start < length s → IsPartStart s start
    → FirstGap (drop start s) n → IsGaplessRun s start (slice_range s (start - 1) (start + n))
is_gapless_run s start n l part h =
    let run = slice_range s (start - 1) (start + n) in
    let rest_len = length-drop start s in
    let not_filler : is_filler (drop start s) 0 ≡ false = is_filler-drop s start ∙ part.begins in
    let some : 0 < n = first_gap_positive (drop start s) n (omega (arith, rest_len)) not_filler h in
    let is = slice_from_slash s start n l part in
    let size : length run ≡ suc n =
    ap length is ∙ ap suc (length-take-le n (drop start s) h.in_range) in
    let end : start + n ≡ start - 1 + length run = omega (arith, size, part.after_start) in
    record {
      more = omega (arith, size, some);
      in_range = omega (arith, end, h.in_range, rest_len);
      gap = grind (arith, and_parts, get_or-drop, eqb-true);
      same = component_before_gap (drop start s) n (omega (arith, rest_len)) not_filler h
          ∙ ap₂ (λ u v. u ++ slashed_parts v) (sym is)
          (drop-drop n start s ∙ ap (λ k. drop k s) end);
    }
