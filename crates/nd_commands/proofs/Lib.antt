pub mod Arrays
pub mod Beginnings
pub mod Carried
pub mod Edited
pub mod Lines
pub mod Openings
pub mod Plain
pub mod Shown
