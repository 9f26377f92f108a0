pub mod Operators
pub mod Refusals
