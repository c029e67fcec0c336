-- The lemmas, by subject.
pub mod lists
pub mod joins
pub mod walks
pub mod names
pub mod edits
pub mod spelling
pub mod gaps
pub mod order
pub mod rows
