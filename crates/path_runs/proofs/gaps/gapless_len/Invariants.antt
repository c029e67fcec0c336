use Rattle.std.proofs.Common.{◌≡◌, ℕ, ◌+◌, ◌-◌, ◌<◌, false}
use Rattle.path_runs.specs.Gaps.{is_gap}
use Rattle.path_runs.proofs.gaps.gapless_len.Given as goal

-- no gap begins before index `at`
abbrev pub invariant-loop-at : goal.invariant-loop-at
invariant-loop-at l = record {
  in_range : l.at < l.last + 16;
  none_before : (i : ℕ) → i < l.at → is_gap l.bytes i ≡ false;
}

abbrev pub decreases-loop-at : goal.decreases-loop-at
decreases-loop-at l = l.last + 16 - l.at
