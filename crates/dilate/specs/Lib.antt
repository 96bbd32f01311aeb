pub mod Dilate
pub mod Places
