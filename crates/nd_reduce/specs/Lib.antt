pub mod Axes
pub mod Folds
