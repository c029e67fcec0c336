-- The lemmas, by subject.
pub mod TextLemmas
pub mod LineLemmas
pub mod RecordLemmas
