pub mod Gives
pub mod Following
