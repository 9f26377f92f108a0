pub mod Answer
pub mod Carry
pub mod Input
pub mod Noted
pub mod Run
pub mod Source
pub mod Value
