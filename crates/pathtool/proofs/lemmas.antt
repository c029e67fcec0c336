-- The lemmas, by subject.
pub mod lines
pub mod answers
