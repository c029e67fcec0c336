-- Walks by turns.
pub mod WalkLemmas
-- Used only in this crate.
pub mod WalkStepLemmas
