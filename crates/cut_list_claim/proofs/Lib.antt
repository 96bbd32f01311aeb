-- `Theorem` has the claim for every list of operations; `Rest` that the places from 512 on are left alone; `Readers` that the readers agree; `Cuts`
-- that the cuts of a stretch fit a list. `Order` has the laws of stamps in order, `Steps` what one operation does to a list that is not bad.
pub mod Order
pub mod Steps
pub mod Theorem
pub mod Rest
pub mod Readers
pub mod Cuts
pub mod Sample
