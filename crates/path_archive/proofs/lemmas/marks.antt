-- The pass over sorted uses, which marks those that clash.
pub mod PassLemmas
pub mod OrderLemmas
pub mod MarkLemmas
pub mod RelateLemmas
pub mod StepLemmas
pub mod UnmarkedLemmas
