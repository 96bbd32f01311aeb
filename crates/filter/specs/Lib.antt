pub mod Flash
pub mod Calls
pub mod Claim
pub mod Seen
