pub mod Text
pub mod StructureText
pub mod Printing
pub mod FaultText
