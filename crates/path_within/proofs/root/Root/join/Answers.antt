use Rattle.std.proofs.Common.{rules}
use Rattle.path_within.proofs.lemmas.below.BelowLemmas.{begins, is_below}
use Rattle.path_within.proofs.root.Root.join.Goals as goal

pub returns-clause-begins : goal.returns-clause-begins
returns-clause-begins c = search (rules, begins)

pub returns-clause-below : goal.returns-clause-below
returns-clause-below c = search (rules, is_below)
