-- Walks: their indices, and what their calls return.
pub mod CursorLemmas
-- The modules below are only for this crate.
pub mod OffsetLemmas
pub mod ComponentLemmas
pub mod MixedLemmas
