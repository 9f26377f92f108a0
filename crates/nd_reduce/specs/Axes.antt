pub mod Axes
pub mod Faults
pub mod LastAxis
pub mod Made
pub mod Tables
