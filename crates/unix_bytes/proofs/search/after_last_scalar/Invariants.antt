use Rattle.std.proofs.Common.{◌≡◌, ℕ, ◌<◌, ◌≤◌, ◌==◌, false, get_or}
use Rattle.unix_bytes.proofs.search.after_last_scalar.Given as goal

-- `past` is at most `len`, and `byte` does not occur in `bytes` from index `past` up to `len`,
-- exclusive
abbrev pub invariant-loop-past : goal.invariant-loop-past
invariant-loop-past l = record {
  in_range : l.past ≤ l.len;
  none_after : (k : ℕ) → l.past ≤ k → k < l.len → (get_or l.bytes k 0 == l.byte) ≡ false;
}

abbrev pub decreases-loop-past : goal.decreases-loop-past
decreases-loop-past l = l.past
