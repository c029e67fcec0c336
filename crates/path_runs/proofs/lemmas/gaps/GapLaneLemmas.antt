-- A search for a gap in 16 bytes at once. A gap is a slash before an empty piece or the piece `.`.
use Rattle.std.proofs.Common.{◌≡◌, ℕ, ◌+◌, ◌<◌, ◌≤◌, Bool, eqb, ◌&&◌, ◌||◌, List, length, get_or}
use Rattle.std.proofs.Common.{ap₂, subst, arith, rules}
use Rattle.std.specs.Simd.Lanes.{chunk}
use Rattle.std.proofs.lemmas.Simd.{length-chunk}
use Rattle.unix_bytes.proofs.lemmas.vectors.TestLaneLemmas.{hits, both, either, Tells, Tells-hits}
use Rattle.unix_bytes.proofs.lemmas.vectors.TestLaneLemmas.{Tells-both, Tells-either, lane_at}
use Rattle.unix_bytes.proofs.lemmas.vectors.TestLaneLemmas.{TellFrom}
use Rattle.path_runs.specs.Gaps.{is_gap}

-- a gap begins at a byte x that is followed by y and z
abbrev gap : ℕ → ℕ → ℕ → Bool
gap x y z = eqb x 47 && (eqb y 47 || (eqb y 46 && eqb z 47))

-- the lanes that show at which of the 16 bytes `here` a gap begins; `next` and `after` are the 16
-- bytes that begin one and two bytes later
abbrev gap_lanes : List ℕ → List ℕ → List ℕ → List ℕ
gap_lanes here next after =
    both (hits 16 here 47) (either (hits 16 next 47) (both (hits 16 next 46) (hits 16 after 47)))

-- if `here`, `next` and `after` have 16 bytes each, and i is less than 16, lane i shows whether
-- byte i of `here`, followed by byte i of `next` and byte i of `after`, begins a gap
Tells-gap : (here next after : List ℕ) (i : ℕ) → length here ≡ 16 → length next ≡ 16
    → length after ≡ 16 → i < 16
    → Tells 16 (gap_lanes here next after) i
    (gap (get_or here i 0) (get_or next i 0) (get_or after i 0))
Tells-gap here next after i l m n few = search (rules, Tells-both, Tells-hits, Tells-either)

-- the lanes that show at which of the 16 bytes of s from index `at` on a gap begins
abbrev lanes : List ℕ → ℕ → List ℕ
lanes s at = gap_lanes (chunk at 16 s) (chunk (at + 1) 16 s) (chunk (at + 2) 16 s)

-- if s has at least 18 bytes from index `at` on, the lanes show at which of the first 16 of them a
-- gap begins
pub lanes_show_gaps : (s : List ℕ) (at : ℕ) → at + 18 ≤ length s
    → TellFrom 16 (lanes s at) (is_gap s) at
lanes_show_gaps s at l = record {
  some = omega arith;
  few = omega arith;
  each = λ i few. subst (Tells 16 (lanes s at) i)
      (ap₂ (λ x yz. eqb x 47 && yz) (lane_at 16 0 s at i (at + i) (omega arith) few (omega arith))
      (ap₂ (λ y z. eqb y 47 || (eqb y 46 && eqb z 47))
      (lane_at 16 47 s (at + 1) i (at + i + 1) (omega arith) few (omega arith))
      (lane_at 16 47 s (at + 2) i (at + i + 2) (omega arith) few (omega arith))))
      (Tells-gap (chunk at 16 s) (chunk (at + 1) 16 s) (chunk (at + 2) 16 s) i
      (length-chunk at 16 s (omega arith)) (length-chunk (at + 1) 16 s (omega arith))
      (length-chunk (at + 2) 16 s (omega arith)) few);
}
