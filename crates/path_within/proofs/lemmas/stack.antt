-- The stack of a path that is resolved.
pub mod Stacks
pub mod StackLemmas
pub mod PathOfLemmas
pub mod ResolveLemmas
pub mod EscapeLemmas
pub mod BetweenLemmas
pub mod RelativePathLemmas
pub mod CancelLemmas
