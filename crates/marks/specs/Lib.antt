-- What the program `marks` prints.
pub mod Text
