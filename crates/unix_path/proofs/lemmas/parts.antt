-- The components of a string, and those of both sides if it is cut at a slash.
pub mod ValueLemmas
pub mod PieceLemmas
pub mod PlaceLemmas
pub mod PartLemmas
-- The modules below are only for this crate.
pub mod CutLemmas
