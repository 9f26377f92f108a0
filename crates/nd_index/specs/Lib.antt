pub mod Basic
pub mod Advanced
pub mod Items
pub mod Offsets
