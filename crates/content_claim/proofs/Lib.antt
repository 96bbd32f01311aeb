-- `Theorem` has the claim for every list of content calls; `OneRow` the theorem of the one row; `Good` that no state of a run is bad;
-- `Views` how a call acts on the filter.
pub mod Triggered
pub mod Good
pub mod Views
pub mod Theorem
pub mod Sample
pub mod Sums
pub mod OneRow
