use Rattle.std.proofs.Common.{◌≡◌, ◌∷◌, ◌+◌, ◌≤◌, drop, length, refl, sym, ap, ◌∙◌, arith}
use Rattle.std.proofs.Common.{length-drop}
use Rattle.path_runs.proofs.lemmas.gaps.FirstGapLemmas.{slice_range-from}
use Rattle.unix_bytes.specs.Chunks.{chunk_of, remaining_chunks, chunks_of}
use Rattle.unix_path_c.proofs.lemmas.walks.ChunkLemmas.{remaining_chunks-past, first_chunk_at}
use Rattle.unix_path_c.proofs.lemmas.walks.ChunkLemmas.{first_chunk_fits}
use Rattle.unix_path_c.proofs.chunks.unix_path_next_chunk.Goals as goal
use Rattle.unix_path_c.proofs.chunks.unix_path_next_chunk.Goals.{In-Some}

-- the chunk that the iterator returned, and then the chunks that remain in it, are the chunks of
-- the path's bytes from index `next` on
taken : (c : In-Some) → chunks_of (drop c.args.next.now c.args.path.now)
    ≡ chunk_of c.in-Some.first ∷ remaining_chunks c.next.new.self
taken c = sym (ap chunks_of (c.from_bytes.ensures
    ∙ slice_range-from c.args.path.now c.args.next.now))
    ∙ sym c.chunks.ensures.pending ∙ c.in-Some.ensures.steps

-- the chunk that the iterator returned ends within the path
inside : (c : In-Some) → c.args.next.now + length c.in-Some.first.valid.now
    + length c.in-Some.first.broken.now ≤ length c.args.path.now
inside c = omega (
  arith,
  first_chunk_fits _ _ _ _ (taken c),
  length-drop c.args.next.now c.args.path.now,
  c.if-start-path.false,
)

pub returns-then-start-path-clause-ended : goal.returns-then-start-path-clause-ended
returns-then-start-path-clause-ended c = (
  λ _. remaining_chunks-past c.args.path.now c.args.next.now c.if-start-path.true,
  λ _. refl,
)

pub overflow_add-next-2 : goal.overflow_add-next-2
overflow_add-next-2 c = omega (arith, inside (goal.at.overflow_add-next-2 c).In-Some)

pub returns-clause-chunks : goal.returns-clause-chunks
returns-clause-chunks c = λ _. first_chunk_at c.args.path.now c.in-Some.first.valid.now
    c.in-Some.first.broken.now c.args.next.now _ (taken c)

pub returns-clause-inside : goal.returns-clause-inside
returns-clause-inside c = λ _. inside c
