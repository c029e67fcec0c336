-- The lemmas, by subject.
pub mod lists
pub mod vectors
pub mod sequences
pub mod text
pub mod lossy
pub mod chunks
pub mod prefixes
pub mod LawRules
