pub mod Planes
pub mod Returned
pub mod Numbers
pub mod Runs
pub mod Sums
pub mod Stretches
