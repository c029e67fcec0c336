-- The comparison of two strings, and what is fed to a hasher.
pub mod CommonPrefixLemmas
pub mod AfterCutLemmas
pub mod ApartLemmas
pub mod KindLemmas
pub mod PairLemmas
-- Only for this crate.
mod DifferLemmas
pub mod EightLemmas
pub mod EqualValueLemmas
pub mod ComparisonLemmas
pub mod CommonDirLemmas
pub mod EndingLemmas
pub mod StripLemmas
