pub mod Counted
pub mod Good
pub mod Views
pub mod Theorem
pub mod Sums
