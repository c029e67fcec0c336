use Rattle.std.proofs.Common.{◌≡◌, ◌-◌, ◌≤◌, [], length, take}
use Rattle.unix_bytes.specs.Printer.{Shows}
use Rattle.unix_bytes.proofs.printer.show_first.Given as goal

-- the first `end` bytes of `out` and then the lossy form of `source` from index `read` on are the
-- lossy form of `source`; `out` keeps its length, and neither index is past the end of its string
abbrev pub invariant-loop-read : goal.invariant-loop-read
invariant-loop-read l = record {
  len : length l.out ≡ length l.initial.out;
  read : l.read ≤ length l.source;
  end : l.end ≤ length l.out;
  lossy : Shows l.source [] l.read (take l.end l.out);
}

abbrev pub decreases-loop-read : goal.decreases-loop-read
decreases-loop-read l = length l.source - l.read
