pub mod Table
pub mod Under
pub mod Lent
