pub mod Sweeps
pub mod Ways
pub mod Places
