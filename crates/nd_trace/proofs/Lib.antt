pub mod Chosen
pub mod Places
pub mod Noting
pub mod Traces
pub mod Touched
