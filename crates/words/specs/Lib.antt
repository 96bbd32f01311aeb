pub mod Choices
pub mod Stream
