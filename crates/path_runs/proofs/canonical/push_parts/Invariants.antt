use Rattle.std.proofs.Common.{◌≡◌, ◌-◌, ◌<◌, ◌≤◌, ◌++◌, length, drop}
use Rattle.path_runs.specs.Gaps.{slashed_parts, IsPartStart}
use Rattle.path_runs.proofs.canonical.push_parts.Given as goal

-- the bytes appended so far, followed by the remaining components, each after a slash, are all the
-- bytes to append
abbrev pub invariant-loop-start : goal.invariant-loop-start
invariant-loop-start l = record {
  in_range : l.start ≤ length l.bytes;
  part : l.start < length l.bytes → IsPartStart l.bytes l.start;
  same : l.buffer.bytes.items ++ slashed_parts (drop l.start l.bytes)
      ≡ l.initial.buffer.bytes.items ++ slashed_parts (drop l.gap l.bytes);
}

abbrev pub decreases-loop-start : goal.decreases-loop-start
decreases-loop-start l = length l.bytes - l.start
