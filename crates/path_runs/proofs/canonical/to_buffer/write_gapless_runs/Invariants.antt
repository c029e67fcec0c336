use Rattle.std.proofs.Common.{◌-◌, ◌<◌, ◌≤◌, ◌++◌, length, take, drop}
use Rattle.path_runs.specs.Gaps.{slashed_parts, IsPartStart}
use Rattle.path_runs.proofs.lemmas.lists.WritingLemmas.{WritesOn}
use Rattle.path_runs.proofs.canonical.to_buffer.write_gapless_runs.Given as goal

-- a prefix of the canonical form has been written, and the remaining components, each after a
-- slash, are the rest of the canonical form
abbrev pub invariant-loop-start : goal.invariant-loop-start
invariant-loop-start l = record {
  in_range : l.start ≤ length l.bytes;
  part : l.start < length l.bytes → IsPartStart l.bytes l.start;
  to_buffer : WritesOn (take l.gap l.bytes ++ slashed_parts (drop l.gap l.bytes)) l.fn.out l.at
      l.out
      (slashed_parts (drop l.start l.bytes));
}

abbrev pub decreases-loop-start : goal.decreases-loop-start
decreases-loop-start l = length l.bytes - l.start
