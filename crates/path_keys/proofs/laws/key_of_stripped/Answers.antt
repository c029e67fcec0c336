use Rattle.std.proofs.Common.{arith}
use Rattle.path_runs.proofs.lemmas.joins.StripLemmas.{values-stripped_of}
use Rattle.path_keys.proofs.lemmas.values.KeyLemmas.{key_of-append}
use Rattle.path_keys.proofs.laws.key_of_stripped.Goals as goal

pub returns : goal.returns
returns c = grind (arith, key_of-append, values-stripped_of)
