use Rattle.unix_bytes.proofs.lemmas.chunks.SplitLemmas.{splits_first_chunk}
use Rattle.unix_bytes.proofs.lossy.split_chunk.Goals as goal

pub returns : goal.returns
returns c = splits_first_chunk c.requires c.split_text.ensures
