-- The lemmas that prove the laws of `src/laws.rt`.
use Rattle.unix_bytes.proofs.lemmas.sequences.BeginLemmas.{BeginsSequence-from}
use Rattle.unix_bytes.proofs.lemmas.sequences.BeginLemmas.{begins_sequence-from}
use Rattle.unix_bytes.proofs.lemmas.sequences.WidthLemmas.{prefix_free}
use Rattle.unix_bytes.proofs.lemmas.text.TextLemmas.{IsUtf8-from_IsText, IsText-from_IsUtf8}
use Rattle.unix_bytes.proofs.lemmas.lossy.LossyLemmas.{is_text-from_IsText, IsText-from_is_text}
use Rattle.unix_bytes.proofs.lemmas.lossy.LossyLemmas.{concat-fronts_of, lossy_of-text}
use Rattle.unix_bytes.proofs.lemmas.lossy.LossyBoundLemmas.{length-lossy_of}
use Rattle.unix_bytes.proofs.lemmas.lossy.LawLemmas.{fronts_begin, fronts_one_by_one}
use Rattle.unix_bytes.proofs.lemmas.lossy.LawLemmas.{broken_is_short, lossy_is_text}
use Rattle.unix_bytes.proofs.lemmas.lossy.LawLemmas.{lossy_of_broken}
use Rattle.unix_bytes.proofs.lemmas.chunks.ChunkLemmas.{chunks_of-nil, flat_map-shown_chunk}
use Rattle.unix_bytes.proofs.lemmas.chunks.PartitionLemmas.{chunks_partition, chunks_are_short}
use Rattle.unix_bytes.proofs.lemmas.chunks.PartitionLemmas.{whole_chunk_is_last}

-- laws of UTF-8, of lossy forms and of chunks
pub ruleset laws = (
  BeginsSequence-from,
  begins_sequence-from,
  prefix_free,
  IsUtf8-from_IsText,
  IsText-from_IsUtf8,
  is_text-from_IsText,
  IsText-from_is_text,
  concat-fronts_of,
  lossy_of-text,
  length-lossy_of,
  fronts_begin,
  fronts_one_by_one,
  broken_is_short,
  lossy_is_text,
  lossy_of_broken,
  chunks_of-nil,
  flat_map-shown_chunk,
  chunks_partition,
  chunks_are_short,
  whole_chunk_is_last,
)
