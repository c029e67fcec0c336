use Rattle.std.proofs.Common.{arith}
use Rattle.path_keys.proofs.lemmas.values.BeginLemmas.{begins_told}
use Rattle.path_tree.proofs.tree.children.begun_by.Goals as goal

pub returns-in-Some-clause-some : goal.returns-in-Some-clause-some
returns-in-Some-clause-some c = grind (arith, begins_told)
