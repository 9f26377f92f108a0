pub mod Inputs
pub mod Session
