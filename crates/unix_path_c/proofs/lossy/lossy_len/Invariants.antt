use Rattle.std.proofs.Common.{◌≡◌, ◌+◌, ◌<◌, ◌^◌, length}
use Rattle.std.specs.List.{flat_map}
use Rattle.unix_bytes.specs.Chunks.{remaining_chunks, shown_chunk}
use Rattle.unix_bytes.specs.Lossy.{lossy_of}
use Rattle.unix_path_c.specs.SaturatedSize.{saturated_size}
use Rattle.unix_path_c.proofs.lossy.lossy_len.Given as goal

-- the length counted so far plus the length of the remaining chunks' lossy form is the length of
-- the lossy string, or both are at least the greatest `usize`
abbrev pub invariant-loop-chunk : goal.invariant-loop-chunk
invariant-loop-chunk l =
    (goal.iterator-loop-chunk).can_next l.chunk-iterator
    × (goal.iterator-loop-chunk).is_finite l.chunk-iterator
    × (saturated_size (l.len + length (flat_map shown_chunk (remaining_chunks l.chunk-iterator)))
    ≡ saturated_size (length (lossy_of l.path)))
    × (l.len < 2 ^ 64)
