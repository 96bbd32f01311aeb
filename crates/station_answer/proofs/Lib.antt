pub mod Enough
pub mod Refused
pub mod Shown
pub mod Tidied
