pub mod Sizes
pub mod Answer
pub mod Settings
pub mod Promises
pub mod Calls
