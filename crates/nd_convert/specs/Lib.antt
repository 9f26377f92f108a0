pub mod Conversion
pub mod Creation
