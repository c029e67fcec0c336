-- The children of a base.
pub mod ChildLemmas
pub mod ChildWalkLemmas
