use Rattle.std.proofs.Common.{length}
use Rattle.path_keys.proofs.lemmas.reading.LastCodeLemmas.{WalksTo}
use Rattle.path_keys.proofs.parent.last_code.Given as goal

abbrev pub invariant-loop-code : goal.invariant-loop-code
invariant-loop-code l = WalksTo l.key l.rest l.first l.last

abbrev pub decreases-loop-code : goal.decreases-loop-code
decreases-loop-code l = length l.rest
