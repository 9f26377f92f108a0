pub mod KeptLength
pub mod Scattered
pub mod Ready
pub mod OwnValues
pub mod OnLine
