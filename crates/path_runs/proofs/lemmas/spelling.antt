-- The components of a path, computed from its pieces, and their canonical form.
pub mod PieceValueLemmas
pub mod SpellLemmas
pub mod LeanLemmas
pub mod ReadBackLemmas
pub mod OwnSpellingLemmas
pub mod UnslashedLemmas
pub mod JoinAllLemmas
-- Used only in this crate.
pub mod FitLemmas
