-- Bytes cut into fronts, and lossy forms.
pub mod LossyLemmas
pub mod LossyBoundLemmas
-- Only this crate uses the modules below.
pub mod BrokenLemmas
pub mod LawLemmas
