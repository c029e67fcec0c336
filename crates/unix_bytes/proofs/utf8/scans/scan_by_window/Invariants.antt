use Rattle.std.proofs.Common.{◌≤◌, ◌-◌, length, take}
use Rattle.unix_bytes.specs.Utf8.{IsText}
use Rattle.unix_bytes.proofs.utf8.scans.scan_by_window.Given as goal

-- `at` is at most the length of `source`, and the bytes of `source` before `at` are valid UTF-8
abbrev pub invariant-loop-at : goal.invariant-loop-at
invariant-loop-at l = record {
  within : l.at ≤ length l.source;
  text : IsText (take l.at l.source);
}

abbrev pub decreases-loop-at : goal.decreases-loop-at
decreases-loop-at l = length l.source - l.at
