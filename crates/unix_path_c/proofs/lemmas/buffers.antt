-- Results in a buffer, and their lengths.
pub mod LayoutLemmas
pub mod WritingLemmas
pub mod RangeLemmas
pub mod KeyPathLemmas
pub mod BoundLemmas
