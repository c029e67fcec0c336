-- Attributes name their lemmas by whole paths.
pub mod TestLemmas
pub mod lemmas
