pub mod Floats
pub mod Scores
pub mod Settings
