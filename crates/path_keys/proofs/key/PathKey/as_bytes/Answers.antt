use Rattle.path_keys.proofs.lemmas.reading.KeyValueLemmas.{held_is_key}
use Rattle.path_keys.proofs.key.PathKey.as_bytes.Goals as goal

pub returns-clause-is_key : goal.returns-clause-is_key
returns-clause-is_key c = held_is_key _ c.args.self.now.is_key
