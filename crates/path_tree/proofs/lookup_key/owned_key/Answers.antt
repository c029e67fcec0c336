use Rattle.std.proofs.Common.{arith}
use Rattle.std.proofs.lemmas.Grind.{common_steps}
use Rattle.path_keys.proofs.lemmas.reading.KeyValueLemmas.{own-of}
use Rattle.path_tree.proofs.lookup_key.owned_key.Goals as goal

pub returns-clause-own : goal.returns-clause-own
returns-clause-own c = own-of _ c.args.path.bytes.now (grind (arith, common_steps))

pub returns-clause-key : goal.returns-clause-key
returns-clause-key c = grind (arith, common_steps)
