-- Keys of values: their codes, order, length and ranges.
pub mod KeyLemmas
pub mod LengthLemmas
pub mod Fitting
pub mod CodeLemmas
pub mod OrderLemmas
pub mod RangeLemmas
pub mod LastLemmas
pub mod LoweredLemmas
pub mod BeginLemmas
-- Used only in this crate.
mod ByteLemmas
pub mod JoinLemmas
