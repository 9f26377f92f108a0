pub mod Numbers
pub mod Ranges
