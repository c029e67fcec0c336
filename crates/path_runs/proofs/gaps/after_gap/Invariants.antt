use Rattle.std.proofs.Common.{◌≡◌, ◌-◌, ◌<◌, ◌≤◌, true, length, drop}
use Rattle.unix_path.specs.Scan.{is_filler}
use Rattle.path_runs.specs.Gaps.{slashed_parts}
use Rattle.path_runs.proofs.gaps.after_gap.Given as goal

abbrev pub invariant-loop-at : goal.invariant-loop-at
invariant-loop-at l = record {
  forward : l.gap ≤ l.at;
  in_range : l.at ≤ length l.bytes;
  filler : l.gap < l.at → is_filler l.bytes (l.at - 1) ≡ true;
  same : slashed_parts (drop l.gap l.bytes) ≡ slashed_parts (drop l.at l.bytes);
}

abbrev pub decreases-loop-at : goal.decreases-loop-at
decreases-loop-at l = length l.bytes - l.at
