mod Walks
pub mod Reaching
