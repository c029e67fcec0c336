-- The order of lists of components, tables keyed by them, and the bytes that they feed a hasher.
pub mod OrderLemmas
pub mod IntervalLemmas
mod HashInputLemmas
pub mod HashInjectiveLemmas
pub mod ParentBeforeLemmas
pub mod AncestorPrefixLemmas
pub mod TableLemmas
