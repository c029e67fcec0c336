-- The laws of accepted entries.
pub mod RuleLemmas
pub mod StraightLemmas
pub mod ClosedLemmas
pub mod PlaceLemmas
pub mod ActLemmas
pub mod OrdinaryLemmas
