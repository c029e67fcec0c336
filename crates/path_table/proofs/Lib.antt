pub mod RowLemmas
pub mod UnderLemmas
pub mod StripLemmas
pub mod RangeLemmas
pub mod NextLemmas
pub mod RestsLemmas
