pub mod Operands
pub mod Storable
pub mod Updatable
