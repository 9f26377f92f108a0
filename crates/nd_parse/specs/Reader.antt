pub mod Gives
pub mod Tables
pub mod Parts
pub mod Openings
