pub mod Found
pub mod Fronts
mod Parts
