-- Attributes name their lemmas by whole paths.
pub mod LineLemmas
pub mod AddLemmas
mod lemmas
