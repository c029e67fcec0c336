-- Bytes of keys and paths, many at once.
pub mod PutLemmas
pub mod RecodedLaneLemmas
