-- Lists of elements of any type.
pub mod ListLemmas
