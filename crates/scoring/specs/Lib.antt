pub mod Planes
pub mod Sums
pub mod Replaced
