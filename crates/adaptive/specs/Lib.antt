pub mod Options
pub mod State
pub mod Step
