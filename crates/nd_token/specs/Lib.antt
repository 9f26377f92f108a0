pub mod Tokens
pub mod States
