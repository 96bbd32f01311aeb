pub mod Made
pub mod Doubles
