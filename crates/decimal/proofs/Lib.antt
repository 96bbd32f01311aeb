-- Laws of texts placed one after the other, of their lengths, of what std prints, of numbers read digit by digit, of what is written and read
-- back, and of the parts of a text.
pub mod Writes
pub mod Lengths
pub mod Printed
pub mod Numbers
pub mod Back
pub mod Parts
