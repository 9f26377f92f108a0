pub mod Hex
pub mod Loops
pub mod Numbers
pub mod Words
pub mod HexWords
pub mod Parts
pub mod InputWords
