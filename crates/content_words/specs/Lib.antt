pub mod Options
pub mod Filter
pub mod Plan
pub mod Record
pub mod Calls
