mod Rows
mod Samples
