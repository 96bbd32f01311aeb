pub mod Visits
pub mod Strong
pub mod Listing
pub mod Places
