-- The spacing theorem for adaptive calls: `Theorem` has it for every list of calls, `Acts` for a detector over the window. `Literals` and
-- `Capped`: the numbers of the code.
pub mod Literals
pub mod Capped
pub mod Distance
pub mod Theorem
pub mod Acts
pub mod Division
pub mod Samples
