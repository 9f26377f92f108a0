pub mod Formats
pub mod Files
