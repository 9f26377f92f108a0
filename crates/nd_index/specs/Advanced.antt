pub mod Chosen
pub mod IndexNumbers
pub mod Sole
pub mod TakenWays
pub mod Takes
pub mod Walks
