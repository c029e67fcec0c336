use Rattle.path_within.proofs.lemmas.below.WithinLemmas.{resolved_of-within, names-within}
use Rattle.path_within.proofs.laws.within.stays_within.Goals as goal

pub returns : goal.returns
returns c = record {
  values = resolved_of-within;
  names = names-within;
}
