-- Window has what other crates cite: the dilated plane by its window as a set of places.
pub mod Window
pub mod Samples
pub mod Around
pub mod Halves
pub mod Places
pub mod Gathered
pub mod RowsDilated
pub mod Blocks
pub mod Frames
