use Rattle.std.proofs.Common.{◌-◌, take}
use Rattle.std.specs.Str.{IsAscii}
use Rattle.unix_bytes.proofs.utf8.ascii.ascii_len.Given as goal

-- the bytes of `source` before index `at` are ASCII
abbrev pub invariant-loop-at : goal.invariant-loop-at
invariant-loop-at l = IsAscii (take l.at l.source)

abbrev pub decreases-loop-at : goal.decreases-loop-at
decreases-loop-at l = l.last - l.at
