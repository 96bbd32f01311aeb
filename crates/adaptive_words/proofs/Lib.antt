pub mod Writing
pub mod Places
pub mod Refused
