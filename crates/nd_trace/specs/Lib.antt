pub mod Contents
pub mod Marked
pub mod Seen
pub mod Noted
pub mod Traced
pub mod Events
