-- The rest between the first components and the last.
pub mod MiddleLemmas
pub mod RestLemmas
pub mod RootLemmas
pub mod SourceLemmas
-- Only for this crate.
pub mod SplitLemmas
