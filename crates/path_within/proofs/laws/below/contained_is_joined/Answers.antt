use Rattle.path_within.proofs.lemmas.below.BelowLawLemmas.{down_joined, down_joined_here}
use Rattle.path_within.proofs.laws.below.contained_is_joined.Goals as goal

pub returns : goal.returns
returns c = record { joined = down_joined; here = down_joined_here }
