use Rattle.std.proofs.Common.{ap}
use Rattle.path_keys.specs.Keys.{key_of}
use Rattle.path_keys.proofs.lemmas.values.CodeLemmas.{values-coded}
use Rattle.path_keys.proofs.lemmas.values.OrderLemmas.{bytes_cmp-keys, key_of-same}
use Rattle.path_keys.proofs.laws.keys_in_order.Goals as goal

pub returns-clause-order : goal.returns-clause-order
returns-clause-order c = λ s t. bytes_cmp-keys _ _ (values-coded s) (values-coded t)

pub returns-clause-equal : goal.returns-clause-equal
returns-clause-equal c = λ s t.
    (key_of-same _ _ (values-coded s) (values-coded t), λ same. ap key_of same)
