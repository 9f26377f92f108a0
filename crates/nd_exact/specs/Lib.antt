pub mod Need
pub mod Reads
pub mod Behind
pub mod ReadRows
pub mod Leaves
pub mod WriteRows
pub mod Answers
pub mod Scripts
