-- `Content` and `Adaptive` have the spacing theorem for the calls that a station makes; `Runs` what both share.
pub mod Runs
pub mod Content
pub mod Adaptive
