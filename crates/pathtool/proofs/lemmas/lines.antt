-- The lines of the input, and the bytes that are written for them.
pub mod SplitLemmas
pub mod LoopLemmas
