use Rattle.std.proofs.Common.{◌≡◌, ℕ, ◌<◌, get_or, true}
use Rattle.unix_path.specs.Parts.{is_slash}
use Rattle.path_within.proofs.request.leading_slash_count.Given as goal

-- every byte before `index` is a slash
abbrev pub invariant-loop-index : goal.invariant-loop-index
invariant-loop-index l = (k : ℕ) → k < l.index → is_slash (get_or l.bytes k 0) ≡ true
