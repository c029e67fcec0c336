use Rattle.std.proofs.Common.{arith}
use Rattle.path_keys.proofs.lemmas.writing.LeadLemmas.{none_remain}
use Rattle.path_keys.proofs.encode.key_len_of.Goals as goal

pub returns : goal.returns
returns c = grind (arith, none_remain)
