pub mod Header
pub mod Pep3118
pub mod Writing
