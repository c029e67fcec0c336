-- Searching many bytes at once for an end candidate: the separator m before another m or before the
-- dot p.
use Rattle.std.proofs.Common.{◌≡◌, ℕ, ◌+◌, ◌<◌, ◌≤◌, eqb, ◌&&◌, ◌||◌, List, length, get_or, ap₂}
use Rattle.std.proofs.Common.{subst, arith}
use Rattle.std.specs.Simd.Lanes.{chunk}
use Rattle.std.proofs.lemmas.Simd.{length-chunk}
use Rattle.unix_bytes.proofs.lemmas.vectors.TestLaneLemmas.{hits, both, either, Tells, Tells-hits}
use Rattle.unix_bytes.proofs.lemmas.vectors.TestLaneLemmas.{Tells-both}
use Rattle.unix_bytes.proofs.lemmas.vectors.TestLaneLemmas.{Tells-either, lane_at, TellFrom}
use Rattle.unix_path.specs.NameRunEnds.{is_end_candidate_of}

-- the lanes that show which of the n bytes of `here` are end candidates; byte i of `next` is the
-- byte after byte i of `here`
abbrev candidate_lanes : ℕ → ℕ → ℕ → List ℕ → List ℕ → List ℕ
candidate_lanes n m p here next = both (hits n here m) (either (hits n next m) (hits n next p))

-- if `here` and `next` have n bytes each, lane i of `candidate_lanes` shows whether byte i of
-- `here` is m, and byte i of `next` is m or p
Tells-break : (n m p : ℕ) (here next : List ℕ) (i : ℕ) → length here ≡ n → length next ≡ n
    → i < n → Tells n (candidate_lanes n m p here next) i
    (eqb (get_or here i 0) m && (eqb (get_or next i 0) m || eqb (get_or next i 0) p))
Tells-break n m p here next i l k few =
    Tells-both few (Tells-hits n here m i l few)
    (Tells-either few (Tells-hits n next m i k few) (Tells-hits n next p i k few))

-- the `candidate_lanes` of the n bytes of s that start at `at`
abbrev lanes : ℕ → ℕ → ℕ → List ℕ → ℕ → List ℕ
lanes n m p s at = candidate_lanes n m p (chunk at n s) (chunk (at + 1) n s)

-- if n is 1 to 64, and s has more than n bytes from `at` on, `lanes` show which of the first n of
-- them are end candidates
pub candidates_shown : (n m p : ℕ) (s : List ℕ) (at : ℕ) → 0 < n → n ≤ 64 → at + n + 1 ≤ length s
    → TellFrom n (lanes n m p s at) (is_end_candidate_of m p s) at
candidates_shown n m p s at some low l = record {
  some = some;
  few = low;
  each = λ i few. subst (Tells n (lanes n m p s at) i)
      (ap₂ (λ x y. eqb x m && (eqb y m || eqb y p))
      (lane_at n 0 s at i (at + i) (omega arith) few (omega arith))
      (lane_at n m s (at + 1) i (at + i + 1) (omega arith) few (omega arith)))
      (Tells-break n m p (chunk at n s) (chunk (at + 1) n s) i (length-chunk at n s (omega arith))
      (length-chunk (at + 1) n s (omega arith)) few);
}
