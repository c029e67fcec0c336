-- Keys written run by run.
pub mod PieceCodeLemmas
pub mod LeadLemmas
pub mod RunLemmas
pub mod WrittenLemmas
