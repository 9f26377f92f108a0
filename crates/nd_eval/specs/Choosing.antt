pub mod ChosenPlaces
pub mod Indexing
pub mod Selections
pub mod Shapes
pub mod Targets
