pub mod Literals
pub mod Sizes
pub mod ZeroSum
pub mod Samples
