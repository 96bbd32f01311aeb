pub mod Held
pub mod Sixteen
pub mod Counts
pub mod Records
pub mod Accepted
pub mod Single
pub mod Samples
