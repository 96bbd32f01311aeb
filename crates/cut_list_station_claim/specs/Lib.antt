pub mod Run
pub mod Claim
