use Rattle.std.proofs.Common.{arith}
use Rattle.path_keys.proofs.lemmas.values.CodeLemmas.{values-coded}
use Rattle.path_keys.proofs.lemmas.values.OrderLemmas.{key_of-begins, begins-key_of}
use Rattle.path_keys.proofs.laws.keys_begin.Goals as goal

pub returns : goal.returns
returns c = grind (arith, key_of-begins, values-coded, begins-key_of)
