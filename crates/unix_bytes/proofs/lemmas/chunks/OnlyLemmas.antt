-- The first chunk, and whether it is the only chunk.
use Rattle.std.proofs.Common.{◌≡◌, ℕ, List, [], ◌∷◌, ◌++◌, sym, ap, ◌∙◌}
use Rattle.std.proofs.Common.{arith}
use Rattle.std.specs.List.{flat_map}
use Rattle.std.proofs.lemmas.List.{drop_all}
use Rattle.std.proofs.lemmas.Grind.{common_steps}
use Rattle.unix_bytes.specs.Utf8.{IsText}
use Rattle.unix_bytes.specs.Lossy.{lossy_of}
use Rattle.unix_bytes.specs.Chunks.{Chunk, chunks_of, shown_chunk}
use Rattle.unix_bytes.specs.Steps.{first_chunk_of}
use Rattle.unix_bytes.proofs.lemmas.text.TextLemmas.{IsUtf8-from_IsText}
use Rattle.unix_bytes.proofs.lemmas.sequences.FrontLemmas.{longest_front_of-nil}
use Rattle.unix_bytes.proofs.lemmas.chunks.ChunkLemmas.{whole_text, chunks_of-nil, chunks_of-some}
use Rattle.unix_bytes.proofs.lemmas.chunks.ChunkLemmas.{first_chunk_of-text, flat_map-shown_chunk}
use Rattle.unix_bytes.proofs.lemmas.chunks.PartitionLemmas.{chunks_partition, whole_chunk_is_last}

-- if c is the first of the chunks of s, `first_chunk_of s` is c
pub first_chunk_is : (s : List ℕ) (c : Chunk) (cs : List Chunk) → chunks_of s ≡ c ∷ cs
    → first_chunk_of s ≡ c
first_chunk_is [] c cs e = let h = chunks_of-nil in cc
first_chunk_is (b ∷ bs) c cs e = let h = chunks_of-some b bs in cc

-- if the first chunk c of s has no invalid bytes, the `valid` part of c is all of s
pub only_chunk : (s : List ℕ) (c : Chunk) (cs : List Chunk) → chunks_of s ≡ c ∷ cs
    → c.broken ≡ [] → c.valid ≡ s
only_chunk s c cs e z =
    grind (arith, common_steps, whole_chunk_is_last s [] cs c e z, chunks_partition s)

-- if the first chunk c of s has no invalid bytes, s is valid UTF-8
pub only_text : (s : List ℕ) (c : Chunk) (cs : List Chunk) → chunks_of s ≡ c ∷ cs
    → c.broken ≡ [] → IsText s
only_text s c cs e z =
    grind (arith, first_chunk_is s c cs e, only_chunk s c cs e z, first_chunk_of-text s)

-- if the chunks of s are c and then cs, their shown forms (`shown_chunk`), one after the other, are
-- the lossy form of s
pub lossy_of-first_chunk : (s : List ℕ) (c : Chunk) (cs : List Chunk) → chunks_of s ≡ c ∷ cs
    → shown_chunk c ++ flat_map shown_chunk cs ≡ lossy_of s
lossy_of-first_chunk s c cs e = ap (flat_map shown_chunk) (sym e) ∙ flat_map-shown_chunk s

-- if s is valid UTF-8, its first chunk c has no invalid bytes
pub text_has_none_broken : (s : List ℕ) (c : Chunk) (cs : List Chunk) → chunks_of s ≡ c ∷ cs
    → IsText s → c.broken ≡ []
unfolding first_chunk_of
text_has_none_broken s c cs e t =
    grind (arith, whole_text, IsUtf8-from_IsText, first_chunk_is, drop_all, longest_front_of-nil)
