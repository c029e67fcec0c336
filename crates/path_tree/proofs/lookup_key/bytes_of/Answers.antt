use Rattle.path_keys.proofs.lemmas.reading.KeyValueLemmas.{own-IsKey}
use Rattle.path_tree.proofs.lookup_key.bytes_of.Goals as goal

pub returns-clause-own : goal.returns-clause-own
returns-clause-own c = own-IsKey _ _ c.as_bytes.ensures.bytes c.args.key.now.is_key
