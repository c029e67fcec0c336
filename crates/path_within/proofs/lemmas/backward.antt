-- Paths that are resolved from the last component to the first.
pub mod PieceLemmas
pub mod LastLemmas
pub mod LeadingLemmas
pub mod PutLemmas
pub mod LayoutLemmas
pub mod JoinedLemmas
pub mod SharedLemmas
pub mod StepLemmas
