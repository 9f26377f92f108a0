pub mod Dtypes
pub mod Trees
