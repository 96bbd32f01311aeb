-- Laws of a line's values, and of the whole line; and sample lines.
pub mod Values
pub mod Lines
pub mod Told
pub mod Samples
