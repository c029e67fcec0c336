-- Valid UTF-8, and windows of it.
pub mod FinishLemmas
pub mod TextLemmas
pub mod WindowLemmas
