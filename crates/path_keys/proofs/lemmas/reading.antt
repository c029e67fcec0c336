-- Keys that are read code by code.
pub mod FitLemmas
pub mod KeyValueLemmas
-- Used only in this crate.
pub mod MarkLemmas
pub mod NameLemmas
pub mod TextLemmas
pub mod LastCodeLemmas
pub mod KeyReadLemmas
