pub mod Numbers
pub mod Fill
pub mod Starts
pub mod Input
