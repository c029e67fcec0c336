-- Sequences of UTF-8, and fronts.
pub mod SequenceLemmas
pub mod WidthLemmas
pub mod BeginLemmas
pub mod HasBegunLemmas
pub mod LongestLemmas
pub mod FrontLemmas
pub mod GrowLemmas
pub mod StepLemmas
