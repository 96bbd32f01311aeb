pub mod Made
pub mod Bytes
pub mod Writing
pub mod Refused
