-- Joins, their components, and joins from which a base or the last component is removed.
pub mod AssociativeLemmas
pub mod ValueLemmas
pub mod LeadLemmas
pub mod ExtendLemmas
pub mod StripLemmas
pub mod SiblingLemmas
-- Used only in this crate.
pub mod AppendedLemmas
