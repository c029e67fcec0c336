-- The parent, the file name, its stem and its extension.
pub mod ParentLemmas
pub mod NameLemmas
pub mod StemLemmas
pub mod NameCutLemmas
pub mod NameEndLemmas
-- The modules below are only for this crate.
mod DepthLemmas
pub mod AncestorLemmas
pub mod NamedLemmas
pub mod StemCutLemmas
pub mod NameStemLemmas
