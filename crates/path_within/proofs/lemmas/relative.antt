-- The relative path from one path to another.
pub mod RelativePathBoundLemmas
-- Used only in this crate.
pub mod NoRelativePathLemmas
pub mod LeadsLemmas
