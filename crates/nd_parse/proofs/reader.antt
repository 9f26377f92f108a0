pub mod Levels
pub mod Stops
