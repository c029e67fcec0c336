-- The gaps, which the canonical form leaves out. A gap is a slash before an empty piece or the
-- piece `.`.
pub mod FirstGapLemmas
pub mod GapSpellingLemmas
-- Used only in this crate.
pub mod GaplessLemmas
pub mod GapLaneLemmas
pub mod GaplessRunLemmas
