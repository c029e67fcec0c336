-- Testing at once whether 16 bytes are slashes, or dots after slashes.
use Rattle.std.proofs.Common.{◌≡◌, ℕ, zero, suc, ◌+◌, ◌-◌, ◌<◌, ◌≤◌, true, List}
use Rattle.std.proofs.Common.{length, take, get_or, sym, ap, ap₂, subst, ◌∙◌, arith}
use Rattle.std.specs.Simd.Lanes.{chunk}
use Rattle.std.proofs.lemmas.Simd.{length-chunk}
use Rattle.unix_bytes.proofs.lemmas.vectors.TestLaneLemmas.{Tells, TellFrom, lane_at, mask_of}
use Rattle.unix_bytes.proofs.lemmas.vectors.TestLaneLemmas.{none_set}
use Rattle.unix_path.specs.Parts.{parts}
use Rattle.unix_path.specs.Scan.{is_trailing}
use Rattle.unix_path.proofs.lemmas.filler.DotLaneLemmas.{stops, goes_on, stop_lanes, Tells-stop}
use Rattle.unix_path.proofs.lemmas.filler.TrimLemmas.{parts_trailing}

-- if `at` isn't 0, and s has at least 16 bytes from `at` on, the `stop_lanes` of the first 16 of
-- them, each with the byte before it as neighbour, show which of these 16 bytes are neither slashes
-- nor dots after slashes
ends_shown : (s : List ℕ) (at : ℕ) → 0 < at → at + 16 ≤ length s
    → TellFrom 16 (stop_lanes (chunk at 16 s) (chunk (at - 1) 16 s))
    (λ k. stops (get_or s k 0) (get_or s (k - 1) 0)) at
ends_shown s at some l =
    let here = chunk at 16 s in
    let before = chunk (at - 1) 16 s in
    record {
      some = omega arith;
      few = omega arith;
      each = λ i few. subst (Tells 16 (stop_lanes here before) i) (ap₂ stops
          (lane_at 16 0 s at i (at + i) l few (omega arith))
          (lane_at 16 0 s (at - 1) i (at + i - 1) (omega arith) few (omega arith)))
          (Tells-stop here before i (length-chunk at 16 s l)
          (length-chunk (at - 1) 16 s (omega arith)) few);
    }

-- if `at` isn't 0, s has at least 16 bytes from `at` on, and the mask of the `stop_lanes` of the
-- first 16 of them, each with the byte before it as neighbour, is 0, then `is_trailing` is true for
-- these 16 bytes
pub trailing_block : (s : List ℕ) (at : ℕ) → 0 < at → at + 16 ≤ length s
    → mask_of (stop_lanes (chunk at 16 s) (chunk (at - 1) 16 s)) ≡ 0
    → (k : ℕ) → at ≤ k → k < at + 16 → is_trailing s k ≡ true
trailing_block s at some l none k from to =
    grind (
      arith,
      goes_on (get_or s k 0) (get_or s (k - 1) 0)
          ((none_set (ends_shown s at some l) none).none_before k from to),
    )

-- if `is_trailing` is true for the n bytes of s from `at` on, the first `at` bytes of s have the
-- same components as its first `at` + n bytes
pub parts_trailing_block : (s : List ℕ) (at n : ℕ) → at + n ≤ length s
    → ((k : ℕ) → at ≤ k → k < at + n → is_trailing s k ≡ true)
    → parts (take at s) ≡ parts (take (at + n) s)
parts_trailing_block s at zero l all = grind arith
parts_trailing_block s at (suc n) l all =
    parts_trailing_block s at n (omega arith) (λ k from to. all k from (omega arith))
    ∙ sym (parts_trailing s (at + n) (omega arith) (all (at + n) (omega arith) (omega arith)))
    ∙ ap (λ k. parts (take k s)) {x = at + n + 1} {y = at + suc n} (omega arith)
