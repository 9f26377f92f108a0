pub mod Values
pub mod Contents
pub mod Live
pub mod Loose
pub mod Layers
pub mod Sharing
