pub mod Calls
pub mod Syntax
pub mod Lists
