pub mod Renewing
pub mod Writing
