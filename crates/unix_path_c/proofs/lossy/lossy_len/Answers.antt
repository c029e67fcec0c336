use Rattle.std.proofs.Common.{◌≡◌, ◌+◌, length, ap, ◌∙◌, lit<, arith}
use Rattle.std.specs.List.{flat_map}
use Rattle.unix_bytes.specs.Chunks.{remaining_chunks, chunks_of, shown_chunk}
use Rattle.unix_bytes.specs.Lossy.{lossy_of}
use Rattle.unix_bytes.proofs.lemmas.chunks.ChunkLemmas.{flat_map-shown_chunk}
use Rattle.unix_path_c.specs.SaturatedSize.{saturated_size}
use Rattle.unix_path_c.proofs.lossy.lossy_len.Goals as goal

pub loop-chunk-init : goal.loop-chunk-init
loop-chunk-init c =
    let path = c.args.path.now in
    let pending = flat_map shown_chunk (remaining_chunks c.into_iter-chunk-iterator.result) in
    let all : 0 + length pending ≡ length (lossy_of path) = omega (
      arith,
      ap length (ap (λ it. flat_map shown_chunk (remaining_chunks it))
          c.into_iter-chunk-iterator.ensures.into_iter_gives
          ∙ ap (flat_map shown_chunk) (c.chunks-chunk-items.ensures.pending
          ∙ ap chunks_of c.from_bytes.ensures)
          ∙ flat_map-shown_chunk path),
    ) in
    (tt, tt, ap saturated_size all, lit< tt)

pub returns : goal.returns
returns c =
    let none = ap (λ cs. length (flat_map shown_chunk cs)) c.in-None.ensures.steps.0 in
    omega (arith, c.loop-chunk.invariant.2, c.loop-chunk.invariant.3, none)
