-- Slices that lie within other slices.
use Rattle.std.proofs.Common.{◌≡◌, ◌≤◌, ◌+◌, ◌-◌, List, ℕ, length, take, drop, refl}
use Rattle.std.proofs.Common.{◌∙◌, arith, drop-drop}
use Rattle.std.specs.Borrow.{Bor}
use Rattle.std.proofs.lemmas.Grind.{common_steps}
use Rattle.unix_path.specs.Slices.{IsTail, LiesIn}

-- a slice is within itself
pub LiesIn-itself : (slice : Bor (List ℕ)) → LiesIn slice slice
LiesIn-itself slice = record { block = refl; start = omega arith; end = omega arith }

-- if a slice lies within a second one, and this one within a third, the first lies within the third
pub lies_deeper : {part middle whole : Bor (List ℕ)} → LiesIn part middle → LiesIn middle whole
    → LiesIn part whole
lies_deeper h k = record {
  block = h.block ∙ k.block;
  start = omega (arith, h.start, k.start);
  end = omega (arith, h.end, k.end);
}

-- if `part` is a suffix of `middle`, and `middle` is a suffix of `whole`, both in the same memory,
-- then `part` is a suffix of `whole`
pub IsTail-trans : (part middle whole : Bor (List ℕ)) → IsTail part middle → IsTail middle whole
    → IsTail part whole
IsTail-trans part middle whole h k = grind (arith, drop-drop)

-- a slice is a suffix of itself
pub IsTail-itself : (slice : Bor (List ℕ)) → IsTail slice slice
IsTail-itself slice = grind arith

-- if `part` is the bytes of `whole` from index n on, in the same memory, `part` is a suffix of
-- `whole`
pub IsTail-from : (part whole : Bor (List ℕ)) (n : ℕ) → n ≤ length whole.now
    → part.now ≡ take (length whole.now - n) (drop n whole.now)
    → part.ref_ptr.0 ≡ whole.ref_ptr.0 → part.ref_ptr.1 ≡ whole.ref_ptr.1 + n
    → IsTail part whole
IsTail-from part whole n inside bytes block place = grind (arith, common_steps)
