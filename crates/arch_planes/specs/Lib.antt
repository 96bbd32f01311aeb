pub mod Packed
pub mod Difference
