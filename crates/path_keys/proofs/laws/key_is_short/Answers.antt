use Rattle.path_keys.proofs.lemmas.values.LengthLemmas.{length-key_of}
use Rattle.path_keys.proofs.laws.key_is_short.Goals as goal

pub returns : goal.returns
returns c = length-key_of
