pub mod Faults
pub mod Layouts
pub mod Stretches
pub mod Recasts
pub mod Reshapes
pub mod NewShapes
