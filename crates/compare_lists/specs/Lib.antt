pub mod Fed
pub mod Memory
pub mod Records
pub mod Wrote
