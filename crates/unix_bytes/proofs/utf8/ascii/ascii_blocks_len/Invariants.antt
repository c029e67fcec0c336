use Rattle.std.proofs.Common.{◌≤◌, ◌-◌, length, take}
use Rattle.std.specs.Str.{IsAscii}
use Rattle.unix_bytes.proofs.utf8.ascii.ascii_blocks_len.Given as goal

-- `at` is at most the length of `source`, and the bytes of `source` before `at` are ASCII
abbrev pub invariant-loop-at : goal.invariant-loop-at
invariant-loop-at l = record {
  within : l.at ≤ length l.source;
  ascii : IsAscii (take l.at l.source);
}

abbrev pub decreases-loop-at : goal.decreases-loop-at
decreases-loop-at l = length l.source - l.at
