use Rattle.unix_bytes.proofs.lemmas.text.TextLemmas.{IsText-sequence}
use Rattle.unix_bytes.proofs.lemmas.lossy.LossyLemmas.{lossy_of-append}
use Rattle.unix_bytes.proofs.laws.lossy_one_by_one.Goals as goal

pub returns-clause-sequence : goal.returns-clause-sequence
returns-clause-sequence c = λ u s h. lossy_of-append u s (IsText-sequence u h)
