-- The spacing theorem. `Theorem` has it for every list of calls; `Greedy` and `Distance` for a list of scored frames, whatever detector they come from.
pub mod Frames
pub mod Greedy
pub mod Distance
pub mod Stretch
pub mod Theorem
pub mod Acts
pub mod Division
