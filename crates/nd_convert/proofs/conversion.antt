pub mod Alike
pub mod Contiguous
pub mod InOrder
pub mod Pieces
pub mod Written
