pub mod Results
pub mod Sides
pub mod ElementsLeft
pub mod Lending
pub mod Feeds
pub mod Turns
pub mod Cycles
pub mod Laid
