pub mod Counted
pub mod Items
pub mod MaskBytes
