use Rattle.std.proofs.Common.{ap, arith, length}
use Rattle.std.proofs.iter.runs.Sources.{from_front}
use Rattle.std.specs.Iterator.{YieldsFirstBy}
use Rattle.unix_bytes.specs.Chunks.{chunk_of, remaining_chunks}
use Rattle.unix_bytes.proofs.lemmas.chunks.PartitionLemmas.{length-chunks_of}
use Rattle.unix_bytes.proofs.lossy.Utf8Lossy.chunks.Goals as goal

pub returns-clause-len : goal.returns-clause-len
returns-clause-len c = omega (arith, length-chunks_of c.args.self.now.bytes.now)

pub returns-clause-runs : goal.returns-clause-runs
returns-clause-runs c =
    from_front (YieldsFirstBy chunk_of remaining_chunks) chunk_of remaining_chunks
    (λ s t h. ap length h.0) (λ s x t h. h)
