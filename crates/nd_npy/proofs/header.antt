pub mod Meaning
pub mod ElementTexts
pub mod Turned
pub mod Plain
pub mod Made
pub mod Following
