pub mod Readers
pub mod Rows
