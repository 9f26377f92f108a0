pub mod Contents
pub mod Lines
pub mod New
pub mod OfTwo
pub mod Elementwise
pub mod Listing
