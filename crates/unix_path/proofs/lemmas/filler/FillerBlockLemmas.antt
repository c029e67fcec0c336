-- Testing at once whether 16 bytes are slashes, or dots before slashes.
use Rattle.std.proofs.Common.{◌≡◌, ℕ, zero, suc, ◌+◌, ◌<◌, ◌≤◌, true, List, length, drop, get_or}
use Rattle.std.proofs.Common.{ap, ap₂, subst, ◌∙◌, arith}
use Rattle.std.specs.Simd.Lanes.{chunk}
use Rattle.std.proofs.lemmas.Simd.{length-chunk}
use Rattle.unix_bytes.proofs.lemmas.vectors.TestLaneLemmas.{Tells, TellFrom, lane_at, mask_of}
use Rattle.unix_bytes.proofs.lemmas.vectors.TestLaneLemmas.{none_set}
use Rattle.unix_path.specs.Parts.{inner_parts}
use Rattle.unix_path.specs.Scan.{is_filler}
use Rattle.unix_path.proofs.lemmas.filler.FillerLemmas.{inner_parts_filler_at}
use Rattle.unix_path.proofs.lemmas.filler.DotLaneLemmas.{stops, goes_on, stop_lanes, Tells-stop}

-- if s has more than 16 bytes from `at` on, the `stop_lanes` of the first 16 of them, each with the
-- byte after it as neighbour, show which of these 16 bytes are neither slashes nor dots before
-- slashes
ends_shown : (s : List ℕ) (at : ℕ) → at + 16 < length s
    → TellFrom 16 (stop_lanes (chunk at 16 s) (chunk (at + 1) 16 s))
    (λ k. stops (get_or s k 0) (get_or s (k + 1) 47)) at
ends_shown s at l =
    let here = chunk at 16 s in
    let next = chunk (at + 1) 16 s in
    record {
      some = omega arith;
      few = omega arith;
      each = λ i few. subst (Tells 16 (stop_lanes here next) i) (ap₂ stops
          (lane_at 16 0 s at i (at + i) (omega arith) few (omega arith))
          (lane_at 16 47 s (at + 1) i (at + i + 1) (omega arith) few (omega arith)))
          (Tells-stop here next i (length-chunk at 16 s (omega arith))
          (length-chunk (at + 1) 16 s (omega arith)) few);
    }

-- if s has more than 16 bytes from `at` on, and the mask of the `stop_lanes` of the first 16 of
-- them, each with the byte after it as neighbour, is 0, then these 16 bytes are filler
pub filler_block : (s : List ℕ) (at : ℕ) → at + 16 < length s
    → mask_of (stop_lanes (chunk at 16 s) (chunk (at + 1) 16 s)) ≡ 0
    → (k : ℕ) → at ≤ k → k < at + 16 → is_filler s k ≡ true
filler_block s at l none k from to =
    goes_on (get_or s k 0) (get_or s (k + 1) 47)
    ((none_set (ends_shown s at l) none).none_before k from to)

-- if the n bytes of s from index i on are filler, the inner components of s from i on are the inner
-- components of s from i + n on, at the same positions
pub inner_parts_filler_block : (at : ℕ) (s : List ℕ) (i n : ℕ) → i + n ≤ length s
    → ((k : ℕ) → i ≤ k → k < i + n → is_filler s k ≡ true)
    → inner_parts (at + i) (drop i s) ≡ inner_parts (at + (i + n)) (drop (i + n) s)
inner_parts_filler_block at s i zero l all = grind arith
inner_parts_filler_block at s i (suc n) l all =
    inner_parts_filler_block at s i n (omega arith) (λ k from to. all k from (omega arith))
    ∙ inner_parts_filler_at at s (i + n) (omega arith) (all (i + n) (omega arith) (omega arith))
    ∙ ap (λ k. inner_parts (at + k) (drop k s)) {x = i + n + 1} {y = i + suc n} (omega arith)
