-- Facts on the definitions of specs/, which the functions' proofs cite.
pub mod Tested
pub mod Reciprocal
pub mod Reading
pub mod ByCases
pub mod Pixels
pub mod Stored
pub mod Planes
