mod Touched
mod Named
pub mod Changes
pub mod Snapshots
pub mod Whole
