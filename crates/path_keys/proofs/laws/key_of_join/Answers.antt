use Rattle.path_keys.proofs.lemmas.values.JoinLemmas.{key_of-join_of}
use Rattle.path_keys.proofs.laws.key_of_join.Goals as goal

pub returns : goal.returns
returns c = key_of-join_of
