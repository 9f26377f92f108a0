pub mod Calls
pub mod Cells
pub mod Reader
pub mod Rules
