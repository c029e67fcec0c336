use Rattle.std.proofs.Common.{length}
use Rattle.tar_listing.proofs.lemmas.RecordLemmas.{Reads}
use Rattle.tar_listing.proofs.listing.records_of.Given as goal

abbrev pub invariant-loop-rest : goal.invariant-loop-rest
invariant-loop-rest l = Reads l.listing l.rest l.line l.records.items

abbrev pub decreases-loop-rest : goal.decreases-loop-rest
decreases-loop-rest l = length l.rest
