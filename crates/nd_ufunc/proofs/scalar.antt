pub mod Modulo
pub mod Reciprocals
pub mod ShortNumbers
pub mod Squares
pub mod WholeNumbers
