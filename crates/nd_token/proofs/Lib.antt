pub mod Runs
pub mod Pieces
pub mod Scanning
