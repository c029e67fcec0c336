-- The lemmas, by subject.
pub mod CallLemmas
pub mod WriteLemmas
