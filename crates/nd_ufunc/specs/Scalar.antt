pub mod Faults
pub mod Numbers
pub mod Ufuncs
pub mod Division
