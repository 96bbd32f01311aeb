-- `Theorem` has the claim for every list of calls on a list, and for the cuts of a stretch; `NoRecord`, that what is not a record is refused by 15.
pub mod Theorem
pub mod NoRecord
