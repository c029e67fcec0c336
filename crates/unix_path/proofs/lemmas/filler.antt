-- The filler between components and after the last, byte by byte and 16 bytes at once.
pub mod FillerLemmas
pub mod TrimLemmas
-- The modules below are only for this crate.
mod DotLaneLemmas
pub mod TrailingBlockLemmas
pub mod FillerBlockLemmas
