use Rattle.std.proofs.Common.{◌≡◌, ◌==◌, ℕ, ◌+◌, ◌-◌, ◌<◌, get_or, false}
use Rattle.unix_bytes.proofs.search.find_byte.Given as goal

-- `at` is less than `last` + 16, and `byte` does not occur in `bytes` before index `at`
abbrev pub invariant-loop-at : goal.invariant-loop-at
invariant-loop-at l = record {
  in_range : l.at < l.last + 16;
  none : (k : ℕ) → k < l.at → (get_or l.bytes k 0 == l.byte) ≡ false;
}

abbrev pub decreases-loop-at : goal.decreases-loop-at
decreases-loop-at l = l.last + 16 - l.at
