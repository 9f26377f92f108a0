pub mod Copied
pub mod Seen
pub mod Steps
pub mod Together
