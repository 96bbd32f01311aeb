-- Definitions that the crates share: lists given by index, planes, sums, maxima.
pub mod Lists
pub mod Floats
pub mod Steps
