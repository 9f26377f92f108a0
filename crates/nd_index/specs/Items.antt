pub mod Counts
pub mod Faults
pub mod Inside
pub mod Items
pub mod Packed
pub mod Slices
