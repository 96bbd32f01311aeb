pub mod Output
pub mod Numbered
pub mod Feeding
pub mod Sessions
pub mod Promises
