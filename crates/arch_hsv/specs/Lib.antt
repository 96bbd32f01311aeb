-- What the conversion of BGR pixels to HSV has to give.
pub mod Hsv
pub mod Reciprocals
pub mod Rows
pub mod Blocks
