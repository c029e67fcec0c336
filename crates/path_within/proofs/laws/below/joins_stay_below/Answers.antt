use Rattle.std.proofs.Common.{refl}
use Rattle.path_within.proofs.lemmas.below.BelowLawLemmas.{below_of-within}
use Rattle.path_within.proofs.lemmas.below.BelowLemmas.{begins, values-below, values-stripped_below}
use Rattle.path_within.proofs.laws.below.joins_stay_below.Goals as goal

pub returns : goal.returns
returns c = record {
  begins = λ root b. begins root b refl;
  values = values-below;
  stripped = values-stripped_below;
  within = below_of-within;
}
