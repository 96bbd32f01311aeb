pub mod Near
pub mod Under
pub mod Rows
