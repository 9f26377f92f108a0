pub mod Words
pub mod Command
