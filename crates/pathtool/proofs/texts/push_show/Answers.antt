use Rattle.std.proofs.Common.{◌++◌, ap, ◌∙◌}
use Rattle.std.specs.List.{flat_map}
use Rattle.unix_bytes.specs.Chunks.{shown_chunk, chunks_of, remaining_chunks}
use Rattle.unix_bytes.proofs.lemmas.chunks.ChunkLemmas.{flat_map-shown_chunk}
use Rattle.pathtool.proofs.texts.push_show.Goals as goal

pub loop-chunk-init : goal.loop-chunk-init
loop-chunk-init c =
    let bytes = c.from_bytes.ensures ∙ c.as_bytes.ensures.bytes ∙ c.as_unix_str.ensures.bytes in
    ap (λ said. c.args.answer.now.items ++ said)
    (ap (λ it. flat_map shown_chunk (remaining_chunks it))
    c.into_iter-chunk-iterator.ensures.into_iter_gives
    ∙ ap (flat_map shown_chunk) (c.chunks-chunk-items.ensures.pending ∙ ap chunks_of bytes)
    ∙ flat_map-shown_chunk c.args.path.bytes.now)
