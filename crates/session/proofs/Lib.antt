-- Laws of a line's call and its text, of the bytes that are held, of chunks and of the end of the input; how an input is cut does not change
-- the output; and the lines are numbered by their places.
pub mod Calls
pub mod Chunks
pub mod Texts
pub mod LongLines
pub mod Theorem
pub mod Numbers
pub mod Holding
pub mod Pieces
pub mod Feeding
pub mod Runs
