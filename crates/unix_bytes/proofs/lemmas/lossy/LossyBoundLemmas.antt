-- The lossy form is at most three times as long as the bytes.
use Rattle.std.proofs.Common.{ℕ, zero, suc, ◌*◌, ◌≤◌, List, [], ◌∷◌, length, drop}
use Rattle.std.proofs.Common.{ap, arith, le_refl}
use Rattle.std.proofs.lemmas.Grind.{common_steps}
use Rattle.unix_bytes.specs.Lossy.{lossy_of}
use Rattle.unix_bytes.specs.Steps.{longest_front_of}
use Rattle.unix_bytes.proofs.lemmas.sequences.FrontLemmas.{front_within}
use Rattle.unix_bytes.proofs.lemmas.sequences.GrowLemmas.{fronts_of-some}
use Rattle.unix_bytes.proofs.lemmas.lossy.LossyLemmas.{length-drop-some, lossy_of-nil}

-- if s has at most n bytes, its lossy form is at most three times as long as s
length-lossy_within : (n : ℕ) (s : List ℕ) → length s ≤ n → length (lossy_of s) ≤ 3 * length s
unfolding lossy_of
length-lossy_within n [] le = omega (arith, ap length lossy_of-nil)
length-lossy_within zero (b ∷ bs) le = absurd (omega arith)
length-lossy_within (suc n) (b ∷ bs) le =
    let s = b ∷ bs in
    let u = longest_front_of s in
    let left = drop (length u) s in
    let within = front_within b bs in
    grind (
      arith,
      common_steps,
      fronts_of-some,
      length-lossy_within n left (length-drop-some n (length u) b bs within.0 le),
    )

-- the lossy form of s is at most three times as long as s
pub length-lossy_of : (s : List ℕ) → length (lossy_of s) ≤ 3 * length s
length-lossy_of s = length-lossy_within (length s) s (le_refl (length s))
