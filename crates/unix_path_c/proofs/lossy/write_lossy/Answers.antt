use Rattle.std.proofs.Common.{◌++◌, sym, ap, ap₂, ◌∙◌}
use Rattle.std.specs.List.{flat_map}
use Rattle.unix_bytes.specs.Chunks.{remaining_chunks, chunks_of, shown_chunk}
use Rattle.unix_bytes.specs.Lossy.{lossy_of}
use Rattle.unix_bytes.proofs.lemmas.chunks.ChunkLemmas.{flat_map-shown_chunk}
use Rattle.path_runs.proofs.lemmas.lists.WritingLemmas.{writes_first, writes_last}
use Rattle.unix_path_c.proofs.lemmas.buffers.WritingLemmas.{writes_next}
use Rattle.unix_path_c.proofs.lossy.write_lossy.Goals as goal

pub loop-chunk-init : goal.loop-chunk-init
loop-chunk-init c =
    let path = c.args.path.now in (
      tt,
      tt,
      writes_first (lossy_of path) c.args.out.now
          (ap (λ it. flat_map shown_chunk (remaining_chunks it))
          c.into_iter-chunk-iterator.ensures.into_iter_gives
          ∙ ap (flat_map shown_chunk) (c.chunks-chunk-items.ensures.pending
          ∙ ap chunks_of c.from_bytes.ensures)
          ∙ flat_map-shown_chunk path),
    )

pub loop-chunk-preserved : goal.loop-chunk-preserved
loop-chunk-preserved c =
    let more = flat_map shown_chunk (remaining_chunks c.next.new.self) in
    let cut = ap (flat_map shown_chunk) c.in-Some.ensures.steps
    ∙ ap₂ (λ valid shown. (valid ++ shown) ++ more) (sym c.as_bytes.ensures.value)
    (sym c.replacement_for-shown.ensures) in (
      tt,
      tt,
      writes_next c.as_bytes.result.now c.replacement_for-shown.result.now more
          c.loop-chunk.invariant.2 cut c.write_both-at.ensures.out c.write_both-at.ensures.end,
    )

pub returns : goal.returns
returns c =
    writes_last c.loop-chunk.invariant.2
    (ap (flat_map shown_chunk) c.in-None.ensures.steps.0) c.requires
