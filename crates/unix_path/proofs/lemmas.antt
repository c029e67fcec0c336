-- The lemmas, by subject.
pub mod lists
pub mod parts
pub mod filler
pub mod steps
pub mod name_run_ends
pub mod rests
pub mod edits
pub mod names
pub mod walks
pub mod order
pub mod callers
