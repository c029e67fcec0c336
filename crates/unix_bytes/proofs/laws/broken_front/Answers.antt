use Rattle.unix_bytes.proofs.lemmas.lossy.LawLemmas.{front_is_longest}
use Rattle.unix_bytes.proofs.laws.broken_front.Goals as goal

pub returns-clause-longest : goal.returns-clause-longest
returns-clause-longest c = front_is_longest
