pub mod Indexing
pub mod Used
pub mod Masked
pub mod Stretching
pub mod Lying
