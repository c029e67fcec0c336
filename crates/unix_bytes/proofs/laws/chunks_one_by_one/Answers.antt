use Rattle.unix_bytes.proofs.lemmas.chunks.PartitionLemmas.{chunks_of_some}
use Rattle.unix_bytes.proofs.laws.chunks_one_by_one.Goals as goal

pub returns-clause-some : goal.returns-clause-some
returns-clause-some c = chunks_of_some
