pub mod Parts
pub mod Stored
pub mod NoPixels
pub mod Means
