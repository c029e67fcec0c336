use Rattle.path_within.proofs.lemmas.below.BoundLemmas.{length-resolved}
use Rattle.path_within.proofs.laws.resolved.resolved_is_short.Goals as goal
use Rattle.path_within.proofs.lemmas.below.BoundLemmas.{length-join_of}
use Rattle.std.proofs.Common.{arith}

pub returns : goal.returns
returns c = grind (arith, length-resolved, length-join_of)
