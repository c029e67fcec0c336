-- The first and the last component of a string, and the rest without it.
pub mod SpanLemmas
pub mod LeadLemmas
pub mod LastPieceLemmas
-- The modules below are only for this crate.
pub mod LastLemmas
pub mod StepLemmas
