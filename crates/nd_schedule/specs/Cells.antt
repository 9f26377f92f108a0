pub mod Labels
pub mod Shared
pub mod Source
