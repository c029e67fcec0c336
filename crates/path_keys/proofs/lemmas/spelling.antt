-- Keys read run by run, and their paths written run by run.
pub mod RunTextLemmas
pub mod ParentRunLemmas
pub mod StartLemmas
pub mod RunReadLemmas
mod SpellLemmas
pub mod KeyStopLemmas
pub mod KeyRunLemmas
pub mod LastNamesLemmas
pub mod CutLemmas
