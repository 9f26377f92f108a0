pub mod Kinds
pub mod Names
pub mod Fields
pub mod Structures
pub mod Types
