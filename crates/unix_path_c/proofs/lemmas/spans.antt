-- Where the results of queries are in a string.
pub mod StretchLemmas
pub mod PlaceLemmas
mod FollowLemmas
pub mod FirstLemmas
pub mod LastLemmas
pub mod SignLemmas
