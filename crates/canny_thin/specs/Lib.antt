pub mod Thin
pub mod Step
pub mod Blocks
