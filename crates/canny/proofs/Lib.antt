pub mod Composed
pub mod EdgeBytes
pub mod Length
