pub mod Counting
pub mod InOrder
pub mod NewBytes
