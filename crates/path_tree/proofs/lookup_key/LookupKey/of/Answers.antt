use Rattle.std.proofs.Common.{arith}
use Rattle.std.proofs.lemmas.Grind.{common_steps}
use Rattle.path_tree.proofs.lookup_key.LookupKey.of.Goals as goal

pub returns-then-len-le-STACK_LEN-clause-key : goal.returns-then-len-le-STACK_LEN-clause-key
returns-then-len-le-STACK_LEN-clause-key c = grind (arith, common_steps)

pub returns-clause-key : goal.returns-clause-key
returns-clause-key c = grind (arith, common_steps)
