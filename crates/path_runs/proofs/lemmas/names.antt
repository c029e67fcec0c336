-- Names, split at their last dots.
pub mod DotLemmas
pub mod ExtensionCutLemmas
pub mod StemNameLemmas
pub mod PieceNameLemmas
