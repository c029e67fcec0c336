-- Entries of a tree: inserted, removed, moved, sorted, and compared with another tree's.
pub mod SortedLemmas
pub mod SortedWalkLemmas
pub mod WalkLemmas
pub mod MovedLemmas
pub mod PutLemmas
pub mod ManyLemmas
pub mod EntryLemmas
pub mod UpdateLemmas
pub mod FirstUnderLemmas
pub mod DifferenceLemmas
pub mod ChangedLemmas
pub mod CursorLemmas
pub mod MergeLemmas
