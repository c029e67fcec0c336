-- The lemmas, by subject.
pub mod values
pub mod lanes
pub mod reading
pub mod writing
pub mod spelling
