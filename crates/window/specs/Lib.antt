pub mod Window
pub mod Calls
pub mod Claim
pub mod Seen
