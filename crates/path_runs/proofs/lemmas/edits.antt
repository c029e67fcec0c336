-- Edits, the cache of a list of edits, and queries with the same result for equal paths.
pub mod EditListLemmas
pub mod CongruenceLemmas
pub mod ExtensionLemmas
pub mod EqualPathLemmas
pub mod ScanCacheLemmas
pub mod EditStepLemmas
