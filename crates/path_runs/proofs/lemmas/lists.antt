-- Lists with items of any type, and bytes that are written to a buffer.
pub mod AllLemmas
pub mod OverlayLemmas
pub mod WritingLemmas
