-- The lemmas, by subject.
pub mod stack
pub mod names_only
pub mod below
pub mod relative
pub mod backward
