-- Prefixes and suffixes of lists.
pub mod PrefixLemmas
pub mod SuffixLemmas
