-- The lemmas, by subject.
pub mod spans
pub mod walks
pub mod buffers
