-- The lemmas, by subject.
pub mod keys
pub mod entries
pub mod children
