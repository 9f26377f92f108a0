pub mod Elementwise
pub mod Loops
pub mod Scalar
