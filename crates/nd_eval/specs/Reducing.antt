pub mod Folds
pub mod Stops
