-- The answers of commands.
pub mod AddLemmas
pub mod TabbedLemmas
pub mod PrefixTestLemmas
pub mod QuoteLemmas
pub mod FieldLemmas
pub mod WordLemmas
pub mod TakeLemmas
pub mod TableLemmas
