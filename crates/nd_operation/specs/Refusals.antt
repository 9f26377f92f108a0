pub mod Ends
pub mod Faults
pub mod Stops
