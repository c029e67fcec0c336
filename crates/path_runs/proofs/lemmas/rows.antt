-- Rows of components and values: rows whose components start with a base, and rows after an update.
pub mod UnderLemmas
pub mod UpdateLemmas
