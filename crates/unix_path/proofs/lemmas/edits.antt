-- Joins, and where edits cut a path.
pub mod JoinLemmas
pub mod EditLemmas
-- The modules below are only for this crate.
pub mod SeparatorLemmas
