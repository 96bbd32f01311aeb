pub mod Parts
pub mod Reading
pub mod Writing
pub mod Placed
