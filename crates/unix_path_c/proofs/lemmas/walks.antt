-- Walks over components, ancestors and chunks, by indices only.
pub mod RemainingLemmas
pub mod TakeFirstLemmas
pub mod TakeLastLemmas
pub mod NameLemmas
pub mod StepLemmas
pub mod AncestorLemmas
pub mod ChunkLemmas
