use Rattle.std.proofs.Common.{◌≡◌, ◌+◌, ◌-◌, ◌<◌, ◌≤◌, length, drop}
use Rattle.path_runs.specs.Gaps.{slashed_parts, IsPartStart}
use Rattle.path_runs.proofs.canonical.to_buffer.parts_len.Given as goal

-- the length counted so far plus the length of the remaining components is the length of all
-- components after the gap, with a slash before each
abbrev pub invariant-loop-start : goal.invariant-loop-start
invariant-loop-start l = record {
  in_range : l.start ≤ length l.bytes;
  part : l.start < length l.bytes → IsPartStart l.bytes l.start;
  same : l.len + length (slashed_parts (drop l.start l.bytes))
      ≡ length (slashed_parts (drop l.gap l.bytes));
}

abbrev pub decreases-loop-start : goal.decreases-loop-start
decreases-loop-start l = length l.bytes - l.start
