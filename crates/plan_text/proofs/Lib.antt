-- Laws of the numbers and rows that a text's parts are, and of what is written.
pub mod Fields
pub mod Texts
pub mod Plans
pub mod Rows
pub mod Back
pub mod Alone
pub mod Samples
