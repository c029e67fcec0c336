pub mod Calls
pub mod Watched
