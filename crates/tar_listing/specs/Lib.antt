pub mod Columns
pub mod Form
pub mod Reading
pub mod Laws
