-- The lemmas, by subject.
pub mod laws
pub mod links
pub mod marks
pub mod records
pub mod refusals
