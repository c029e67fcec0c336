pub mod Below
pub mod Manifest
pub mod Mounts
pub mod Router
pub mod Tree
