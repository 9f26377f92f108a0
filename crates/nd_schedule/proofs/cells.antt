pub mod Free
pub mod Spliced
pub mod Turned
pub mod Used
