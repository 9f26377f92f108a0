pub mod RowPlaces
pub mod Ways
