pub mod Recomputed
