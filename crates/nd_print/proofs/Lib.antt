pub mod Joining
pub mod Measuring
pub mod Nested
pub mod Showing
pub mod Sizes
pub mod Widening
pub mod InPlace
pub mod Limits
