-- What the edges take from the luma plane as a whole: its median, the two marks and the window's side.
pub mod Median
pub mod Marks
pub mod Kernel
