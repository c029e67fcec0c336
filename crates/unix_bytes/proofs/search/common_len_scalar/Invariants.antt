use Rattle.std.proofs.Common.{◌≡◌, ℕ, ◌-◌, ◌<◌, ◌≤◌, get_or}
use Rattle.unix_bytes.proofs.search.common_len_scalar.Given as goal

-- `len` is at most `shorter_len`, and the first `len` bytes of `a` and of `b` are the same
abbrev pub invariant-loop-len : goal.invariant-loop-len
invariant-loop-len l = record {
  in_range : l.len ≤ l.shorter_len;
  same : (k : ℕ) → k < l.len → get_or l.a k 0 ≡ get_or l.b k 0;
}

abbrev pub decreases-loop-len : goal.decreases-loop-len
decreases-loop-len l = l.shorter_len - l.len
