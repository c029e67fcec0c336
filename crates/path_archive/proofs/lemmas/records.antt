-- Records split into the uses of entries.
pub mod EntryLemmas
pub mod FieldLemmas
pub mod SplitLemmas
