-- Chunks of valid UTF-8 and the invalid bytes after it, by indices in a path (like Rust's
-- `Utf8Chunk`).
use Rattle.std.specs.Prelude.{ℕ, ◌+◌, List, take, drop}
use Rattle.unix_bytes.specs.Chunks as texts
use Rattle.unix_bytes.specs.Chunks.{chunks_of}
use Rattle.unix_path_c.specs.declared.chunks.Chunk.{Chunk}

-- the chunks of the path's bytes from index `next` on
abbrev pub remaining_chunks : List ℕ → ℕ → List texts.Chunk
remaining_chunks path next = chunks_of (drop next path)

-- the index just after the chunk's last byte
abbrev pub chunk_end : Chunk → ℕ
chunk_end chunk = chunk.start + chunk.valid_length + chunk.broken_length

-- the chunk in the form that the specs of `unix_bytes` use
abbrev pub chunk_in : List ℕ → Chunk → texts.Chunk
chunk_in path chunk = record {
  valid = take chunk.valid_length (drop chunk.start path);
  broken = take chunk.broken_length (drop (chunk.start + chunk.valid_length) path);
}
