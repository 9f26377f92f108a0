pub mod Answers
pub mod Chunks
pub mod Counts
pub mod Ended
pub mod Lines
pub mod Plain
pub mod Progress
pub mod Writing
