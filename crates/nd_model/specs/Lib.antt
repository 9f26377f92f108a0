pub mod Arrays
pub mod Cells
pub mod Indexing
pub mod Making
pub mod Grammar
pub mod Text
pub mod Book
pub mod Formats
