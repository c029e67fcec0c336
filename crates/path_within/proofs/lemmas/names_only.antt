-- Paths of names only, and paths that are resolved already.
pub mod RequestLemmas
-- Used only in this crate.
pub mod NormalLemmas
pub mod NamesOnlyLemmas
pub mod NameStartLemmas
