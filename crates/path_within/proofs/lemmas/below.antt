-- Joins below a root, and the names that they add.
pub mod BoundLemmas
pub mod BelowLemmas
-- Used only in this crate.
pub mod NamesBelowLemmas
mod NulLemmas
pub mod WithinLemmas
pub mod BelowLawLemmas
