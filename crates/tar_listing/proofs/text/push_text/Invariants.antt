use Rattle.std.proofs.Common.{length}
use Rattle.tar_listing.proofs.lemmas.TextLemmas.{HasPushed}
use Rattle.tar_listing.proofs.text.push_text.Given as goal

abbrev pub invariant-loop-byte : goal.invariant-loop-byte
invariant-loop-byte l = HasPushed l.text l.rest l.initial.out.items l.out.items

abbrev pub decreases-loop-byte : goal.decreases-loop-byte
decreases-loop-byte l = length l.rest
