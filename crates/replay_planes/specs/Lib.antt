pub mod Stages
pub mod Batches
