-- The first chunk of some bytes, its indices, and the chunks after it.
use Rattle.std.proofs.Common.{◌≡◌, ℕ, ◌+◌, ◌≤◌, ◌<◌, List, [], ◌∷◌, ◌++◌, length, take, drop}
use Rattle.std.proofs.Common.{sym, ap, ap₂, ◌∙◌, arith, length-append, length-drop, drop-drop}
use Rattle.std.proofs.Common.{append_assoc}
use Rattle.std.specs.List.{flat_map}
use Rattle.std.proofs.Math.Seq.{take-append_seam}
use Rattle.unix_bytes.specs.Chunks.{Chunk, chunks_of}
use Rattle.unix_bytes.specs.Steps.{chunk_len}
use Rattle.unix_bytes.proofs.lemmas.chunks.ChunkLemmas.{chunks_of-nil, chunks_of-empty}
use Rattle.unix_bytes.proofs.lemmas.chunks.ChunkLemmas.{chunks_of-some}
use Rattle.unix_bytes.proofs.lemmas.chunks.OnlyLemmas.{first_chunk_is}
use Rattle.unix_bytes.proofs.lemmas.chunks.PartitionLemmas.{chunks_partition}
use Rattle.unix_path_c.proofs.lemmas.spans.PlaceLemmas.{take-inside}

-- if `at` is greater than the path's length, no chunk remains from index `at` on
pub remaining_chunks-past : (path : List ℕ) (at : ℕ) → length path < at → chunks_of (drop at path)
    ≡ []
remaining_chunks-past path at past =
    chunks_of-empty (drop at path) (omega (arith, length-drop at path))

-- the chunks of s after its first chunk are the chunks of the bytes after the first chunk
chunks_after : (s : List ℕ) (c : Chunk) (cs : List Chunk) → chunks_of s ≡ c ∷ cs
    → chunks_of (drop (chunk_len c) s) ≡ cs
chunks_after [] c cs e = let h = chunks_of-nil in cc
chunks_after (b ∷ bs) c cs e =
    let h = chunks_of-some b bs in
    ap (λ x. chunks_of (drop (chunk_len x) (b ∷ bs))) (sym (first_chunk_is (b ∷ bs) c cs e))
    ∙ (cc)

-- if the first chunk of s has the valid UTF-8 v and the invalid bytes b, and cs are the chunks
-- after it, then s is v, b and the bytes of cs
first_chunk_begins : (s v b : List ℕ) (cs : List Chunk)
    → chunks_of s ≡ record { valid = v; broken = b } ∷ cs
    → s ≡ (v ++ b) ++ flat_map (λ (x : Chunk). x.valid ++ x.broken) cs
first_chunk_begins s v b cs e =
    sym (chunks_partition s) ∙ ap (flat_map (λ (x : Chunk). x.valid ++ x.broken)) e

-- the first chunk of some bytes is no longer than these bytes
pub first_chunk_fits : (s v b : List ℕ) (cs : List Chunk)
    → chunks_of s ≡ record { valid = v; broken = b } ∷ cs → length v + length b ≤ length s
first_chunk_fits s v b cs e =
    let more = flat_map (λ (x : Chunk). x.valid ++ x.broken) cs in omega (
      arith,
      ap length (first_chunk_begins s v b cs e),
      length-append (v ++ b) more,
      length-append v b,
    )

-- the chunk of the valid UTF-8 v and the invalid bytes b
abbrev chunk_by : List ℕ → List ℕ → Chunk
chunk_by v b = record { valid = v; broken = b }

-- the chunks of a path's bytes from index `at` on are the first chunk, with its bytes taken from
-- the path, and the chunks after it
pub first_chunk_at : (path v b : List ℕ) (at : ℕ) (cs : List Chunk)
    → chunks_of (drop at path) ≡ record { valid = v; broken = b } ∷ cs
    → chunks_of (drop at path)
    ≡ record {
      valid = take (length v) (drop at path);
      broken = take (length b) (drop (at + length v) path);
    } ∷ chunks_of (drop (at + length v + length b) path)
first_chunk_at path v b at cs e =
    let s = drop at path in
    let more = flat_map (λ (x : Chunk). x.valid ++ x.broken) cs in
    let begins = first_chunk_begins s v b cs e in
    let text : v ≡ take (length v) s =
    sym (take-append_seam v (b ++ more))
    ∙ ap (take (length v)) (sym (begins ∙ append_assoc v b more)) in
    let broken : b ≡ take (length b) (drop (at + length v) path) =
    sym (take-inside v b more) ∙ ap (λ s. take (length b) (drop (length v) s)) (sym begins)
    ∙ ap (take (length b)) (drop-drop (length v) at path) in
    e ∙ ap₂ (λ x xs. x ∷ xs) (ap₂ chunk_by text broken)
    (sym (chunks_after s (chunk_by v b) cs e)
    ∙ ap chunks_of (drop-drop (length v + length b) at path
    ∙ ap (λ n. drop n path) {x = at + (length v + length b)} (omega arith)))
