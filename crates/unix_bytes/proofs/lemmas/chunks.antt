-- Chunks: valid UTF-8, and the invalid front after it.
pub mod ChunkLemmas
pub mod PartitionLemmas
pub mod OnlyLemmas
-- Only this crate uses the modules below.
pub mod SplitLemmas
