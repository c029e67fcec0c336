-- Where symbolic links lead.
pub mod LinkLemmas
