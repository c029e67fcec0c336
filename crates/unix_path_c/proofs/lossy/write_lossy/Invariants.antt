use Rattle.std.specs.List.{flat_map}
use Rattle.unix_bytes.specs.Chunks.{remaining_chunks, shown_chunk}
use Rattle.unix_bytes.specs.Lossy.{lossy_of}
use Rattle.path_runs.proofs.lemmas.lists.WritingLemmas.{WritesOn}
use Rattle.unix_path_c.proofs.lossy.write_lossy.Given as goal

-- a prefix of the lossy string has been written, and the rest of the lossy string is the lossy form
-- of the remaining chunks
abbrev pub invariant-loop-chunk : goal.invariant-loop-chunk
invariant-loop-chunk l =
    (goal.iterator-loop-chunk).can_next l.chunk-iterator
    × (goal.iterator-loop-chunk).is_finite l.chunk-iterator
    × WritesOn (lossy_of l.path) l.initial.out l.at l.out
    (flat_map shown_chunk (remaining_chunks l.chunk-iterator))
