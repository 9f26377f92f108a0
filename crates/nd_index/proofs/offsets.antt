pub mod Blocks
pub mod Even
pub mod NearWays
pub mod Numbers
pub mod Pushed
pub mod Rows
pub mod Sums
