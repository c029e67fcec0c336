use Rattle.std.proofs.Common.{List, ℕ, length}
use Rattle.unix_path.specs.Slices.{IsTail}
use Rattle.unix_path.specs.Steps.{SharesPrefix}
use Rattle.unix_path.proofs.pair.Comparison.compare_after_cut.Given as goal

abbrev pub invariant-loop-second : goal.invariant-loop-second
invariant-loop-second l = record {
  shares : (s t : List ℕ) → SharesPrefix s t l.a l.b → SharesPrefix s t l.rests.0.now l.rests.1.now;
  tail : IsTail l.rests.0 l.initial.rests.0;
}

abbrev pub decreases-loop-second : goal.decreases-loop-second
decreases-loop-second l = length l.rests.0.now
