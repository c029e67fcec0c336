use Rattle.std.proofs.Common.{◌≡◌, ◌==◌, ℕ, ◌<◌, get_or, false}
use Rattle.unix_bytes.proofs.search.find_byte_scalar.Given as goal

-- `byte` does not occur in `bytes` before index `index`
abbrev pub invariant-loop-index : goal.invariant-loop-index
invariant-loop-index l = (k : ℕ) → k < l.index → (get_or l.bytes k 0 == l.byte) ≡ false
