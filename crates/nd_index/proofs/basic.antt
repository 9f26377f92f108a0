pub mod Evens
pub mod Steps
pub mod Ways
pub mod Fillings
pub mod Chosen
pub mod Fielded
