pub mod Block
pub mod BlockLends
pub mod Lends
pub mod Ownership
pub mod Filling
