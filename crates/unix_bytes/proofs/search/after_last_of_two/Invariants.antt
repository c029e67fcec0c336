use Rattle.std.proofs.Common.{◌≡◌, ℕ, ◌<◌, ◌≤◌, ◌==◌, ◌||◌, false, get_or, length}
use Rattle.unix_bytes.proofs.search.after_last_of_two.Given as goal

-- `end` is at most the length of `bytes`, and neither `first` nor `second` occurs from `end` on
abbrev pub invariant-loop-end : goal.invariant-loop-end
invariant-loop-end l = record {
  in_range : l.end ≤ length l.bytes;
  none_after : (k : ℕ) → l.end ≤ k → k < length l.bytes
      → (get_or l.bytes k 0 == l.first || get_or l.bytes k 0 == l.second) ≡ false;
}

abbrev pub decreases-loop-end : goal.decreases-loop-end
decreases-loop-end l = l.end
