pub mod Options
pub mod Window
pub mod Record
pub mod Calls
