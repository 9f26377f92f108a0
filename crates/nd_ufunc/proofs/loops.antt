pub mod Joined
pub mod Ranges
pub mod SideBySide
pub mod Zipped
pub mod Turns
pub mod Cycles
pub mod Laid
