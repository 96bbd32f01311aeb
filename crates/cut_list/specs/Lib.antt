pub mod Record
pub mod Change
pub mod Find
pub mod Answers
