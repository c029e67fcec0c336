use Rattle.std.proofs.Common.{◌≡◌, ◌++◌}
use Rattle.std.specs.List.{flat_map}
use Rattle.unix_bytes.specs.Chunks.{chunks_of, remaining_chunks}
use Rattle.upath_commands.specs.Shown.{shown_chunk}
use Rattle.upath_commands.proofs.shown.push_shown.Given as goal

abbrev pub invariant-loop-chunk : goal.invariant-loop-chunk
invariant-loop-chunk l =
    l.out.items ++ flat_map shown_chunk (remaining_chunks l.chunk-iterator)
    ≡ l.initial.out.items ++ flat_map shown_chunk (chunks_of l.bytes)
