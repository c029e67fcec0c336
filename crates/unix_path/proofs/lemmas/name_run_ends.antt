-- Where a run of names ends, byte by byte and among many bytes at once.
pub mod NameRunEndLemmas
-- The modules below are only for this crate.
pub mod EndCandidateLaneLemmas
pub mod NameRunEndLaneLemmas
pub mod MayEndLemmas
