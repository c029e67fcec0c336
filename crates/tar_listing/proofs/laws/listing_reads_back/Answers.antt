use Rattle.tar_listing.proofs.lemmas.RecordLemmas.{never_refused, reads_back}
use Rattle.tar_listing.proofs.laws.listing_reads_back.Goals as goal

pub returns : goal.returns
returns c = λ listing entries is.
    (λ n refused. never_refused listing n entries refused is, reads_back listing entries is)
