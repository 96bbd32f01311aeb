pub mod Call
pub mod Run
pub mod Earlier
pub mod PairMut
