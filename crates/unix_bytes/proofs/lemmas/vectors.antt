-- Vectors: several bytes at once, and two strings compared.
pub mod TestLaneLemmas
pub mod CommonLemmas
-- Only this crate uses the modules below.
pub mod MaskLemmas
pub mod HitLemmas
pub mod SelectLemmas
pub mod LaneLemmas
pub mod ContinueLemmas
pub mod CompareLemmas
