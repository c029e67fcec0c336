-- Keys that begin with the key of a base.
pub mod OwnLemmas
pub mod PassLemmas
pub mod FilterLemmas
pub mod UnderLemmas
pub mod IntervalLemmas
pub mod ChildKeyLemmas
pub mod MovedKeyLemmas
pub mod RestLemmas
pub mod NearestLemmas
