use Rattle.std.proofs.Common.{◌≡◌, ◌==◌, ℕ, ◌<◌, get_or, false, not}
use Rattle.std.specs.Str.{byte}
use Rattle.tar_listing.proofs.fields.spaces.Given as goal

-- the bytes before index `index` are spaces
abbrev pub invariant-loop-index : goal.invariant-loop-index
invariant-loop-index l = (k : ℕ) → k < l.index → not (get_or l.text k 0 == byte " ") ≡ false
