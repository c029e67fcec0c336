-- Chunks: the longest prefix that is valid UTF-8, and the invalid front after it.
use Rattle.std.specs.Prelude.{ℕ, ◌==◌, List, [], ◌∷◌, ◌++◌, length, if◌then◌else◌}
use Rattle.unix_bytes.specs.Utf8.{is_sequence}
use Rattle.unix_bytes.specs.Lossy.{fronts_of, replacement}
use Rattle.unix_bytes.specs.declared.lossy.Utf8LossyChunk.{Utf8LossyChunk}
use Rattle.unix_bytes.specs.declared.lossy.Utf8LossyChunksIter.{Utf8LossyChunksIter}

-- a chunk: the bytes `valid`, which are valid UTF-8, and then the invalid front `broken`, which is
-- empty if the byte string ends after `valid`
pub record Chunk : Type 0 where
  pub valid : List ℕ
  pub broken : List ℕ

-- the valid bytes `text` and then the given fronts, grouped into chunks: a front that is a sequence
-- is appended to `text`, and an invalid front ends the chunk
abbrev pub chunks_from : List ℕ → List (List ℕ) → List Chunk
chunks_from text [] = if length text == 0 then [] else record { valid = text; broken = [] } ∷ []
chunks_from text (u ∷ us) =
    if is_sequence u then chunks_from (text ++ u) us
    else record { valid = text; broken = u } ∷ chunks_from [] us

-- the chunks of s: the fronts of s, grouped into chunks
unfoldable pub chunks_of : List ℕ → List Chunk
chunks_of s = chunks_from [] (fronts_of s)

-- the bytes that are shown for `broken`: U+FFFD, or nothing if `broken` is empty
abbrev pub replacement_for : List ℕ → List ℕ
replacement_for broken = if length broken == 0 then [] else replacement

-- the shown form of a chunk: its valid UTF-8, and then U+FFFD if it has an invalid front
abbrev pub shown_chunk : Chunk → List ℕ
shown_chunk c = c.valid ++ replacement_for c.broken

-- a `Utf8LossyChunk` as a `Chunk`
abbrev pub chunk_of : Utf8LossyChunk → Chunk
chunk_of x = record { valid = x.valid.now; broken = x.broken.now }

-- the chunks that an iterator has not returned yet
abbrev pub remaining_chunks : Utf8LossyChunksIter → List Chunk
remaining_chunks it = chunks_of it.source.now
