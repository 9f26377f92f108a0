pub mod Stored
pub mod Updated
pub mod Copied
