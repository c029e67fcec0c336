use Rattle.path_within.proofs.lemmas.stack.ResolveLemmas.{resolved_of-both}
use Rattle.path_within.proofs.laws.resolved.resolved_of_join.Goals as goal
use Rattle.path_within.proofs.lemmas.stack.ResolveLemmas.{values-resolved}
use Rattle.path_within.proofs.lemmas.stack.StackLemmas.{resolved_of-append}
use Rattle.std.proofs.Common.{arith}

pub returns : goal.returns
returns c = grind (arith, resolved_of-both, values-resolved, resolved_of-append)
