pub mod Lines
pub mod Recording
