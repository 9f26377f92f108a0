pub mod Items
pub mod Faults
pub mod FullIndexes
pub mod Layouts
