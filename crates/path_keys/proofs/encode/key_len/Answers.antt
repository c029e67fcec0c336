use Rattle.std.proofs.Common.{arith}
use Rattle.path_keys.proofs.lemmas.values.LengthLemmas.{length-key_of}
use Rattle.path_keys.proofs.encode.key_len.Goals as goal

pub key_len_of-requires : goal.key_len_of-requires
key_len_of-requires c = grind (arith, length-key_of)
