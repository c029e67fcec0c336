-- Searching many bytes at once for the end of a run of names. The separator is m, and the dot is p.
use Rattle.std.proofs.Common.{◌≡◌, ℕ, ◌+◌, ◌<◌, ◌≤◌, eqb, ◌&&◌, List, length, get_or, ap₂, subst}
use Rattle.std.proofs.Common.{arith}
use Rattle.std.specs.Simd.Lanes.{chunk}
use Rattle.std.proofs.lemmas.Simd.{length-chunk}
use Rattle.unix_bytes.proofs.lemmas.vectors.TestLaneLemmas.{hits, both, either, Tells, Tells-hits}
use Rattle.unix_bytes.proofs.lemmas.vectors.TestLaneLemmas.{Tells-both}
use Rattle.unix_bytes.proofs.lemmas.vectors.TestLaneLemmas.{Tells-either, lane_at, TellFrom}
use Rattle.unix_path.specs.NameRunEnds.{ends_name_run_of}
use Rattle.unix_path.proofs.lemmas.name_run_ends.NameRunEndLemmas.{no_name, no_name-same}

-- the lanes that show which of the n bytes of `here` end a run of names; byte i of `first`,
-- `second` and `third` is the first, second and third byte after byte i of `here`
abbrev end_lanes : ℕ → ℕ → ℕ → List ℕ → List ℕ → List ℕ → List ℕ → List ℕ
end_lanes n m p here first second third =
    both (hits n here m) (either (hits n first m)
    (both (hits n first p) (either (hits n second m) (both (hits n second p) (hits n third m)))))

-- if all four strings have n bytes, lane i of `end_lanes` shows whether byte i of `here` is the
-- separator, and no name starts with the bytes i of `first`, `second` and `third`
Tells-stop : (n m p : ℕ) (here first second third : List ℕ) (i : ℕ) → length here ≡ n
    → length first ≡ n → length second ≡ n → length third ≡ n → i < n
    → Tells n (end_lanes n m p here first second third) i (eqb (get_or here i 0) m
    && no_name m p (get_or first i 0) (get_or second i 0) (get_or third i 0))
Tells-stop n m p here first second third i lh lf ls lt few =
    Tells-both few (Tells-hits n here m i lh few)
    (Tells-either few (Tells-hits n first m i lf few)
    (Tells-both few (Tells-hits n first p i lf few)
    (Tells-either few (Tells-hits n second m i ls few)
    (Tells-both few (Tells-hits n second p i ls few) (Tells-hits n third m i lt few)))))

-- the `end_lanes` of the n bytes of s that start at `at`
abbrev lanes : ℕ → ℕ → ℕ → List ℕ → ℕ → List ℕ
lanes n m p s at = end_lanes n m p (chunk at n s) (chunk (at + 1) n s) (chunk (at + 2) n s)
    (chunk (at + 3) n s)

-- if n is 1 to 64, and s has at least n + 3 bytes from `at` on, `lanes` show which of the first n
-- of them end a run of names
pub ends_shown : (n m p : ℕ) (s : List ℕ) (at : ℕ) → 0 < n → n ≤ 64 → at + n + 3 ≤ length s
    → TellFrom n (lanes n m p s at) (ends_name_run_of m p s) at
ends_shown n m p s at some low l = record {
  some = some;
  few = low;
  each = λ i few. subst (Tells n (lanes n m p s at) i)
      (ap₂ (λ x r. eqb x m && r) (lane_at n 0 s at i (at + i) (omega arith) few (omega arith))
      (no_name-same m p
      (lane_at n m s (at + 1) i (at + i + 1) (omega arith) few (omega arith))
      (lane_at n m s (at + 2) i (at + i + 1 + 1) (omega arith) few (omega arith))
      (lane_at n m s (at + 3) i (at + i + 1 + 2) (omega arith) few (omega arith))))
      (Tells-stop n m p (chunk at n s) (chunk (at + 1) n s) (chunk (at + 2) n s)
      (chunk (at + 3) n s) i (length-chunk at n s (omega arith))
      (length-chunk (at + 1) n s (omega arith)) (length-chunk (at + 2) n s (omega arith))
      (length-chunk (at + 3) n s (omega arith)) few);
}
