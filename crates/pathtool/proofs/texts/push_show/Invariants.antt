use Rattle.std.proofs.Common.{◌≡◌, ◌++◌}
use Rattle.std.specs.List.{flat_map}
use Rattle.unix_bytes.specs.Lossy.{lossy_of}
use Rattle.unix_bytes.specs.Chunks.{shown_chunk, remaining_chunks}
use Rattle.pathtool.proofs.texts.push_show.Given as goal

-- the answer so far, followed by the shown forms of the remaining chunks, is the whole answer
abbrev pub invariant-loop-chunk : goal.invariant-loop-chunk
invariant-loop-chunk l =
    l.answer.items ++ flat_map shown_chunk (remaining_chunks l.chunk-iterator)
    ≡ l.initial.answer.items ++ lossy_of l.fn.path.bytes.now
