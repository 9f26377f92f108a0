pub mod Indexes
pub mod Faults
pub mod Paths
pub mod SideBySide
pub mod Strides
pub mod Views
pub mod Walks
