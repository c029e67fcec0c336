-- Refusals, from marked uses.
pub mod NameLemmas
pub mod ReasonLemmas
pub mod CollectLemmas
pub mod PermuteLemmas
pub mod NumberLemmas
pub mod DecideLemmas
