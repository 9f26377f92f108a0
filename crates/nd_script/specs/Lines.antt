pub mod Answers
pub mod Counts
pub mod Ends
pub mod Language
pub mod Run
pub mod Writers
