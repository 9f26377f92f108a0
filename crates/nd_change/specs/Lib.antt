pub mod Change
pub mod Snapshots
pub mod Steps
pub mod Whole
