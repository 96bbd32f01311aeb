pub mod Counts
pub mod Sorted
pub mod Greatest
pub mod Root
pub mod Tables
