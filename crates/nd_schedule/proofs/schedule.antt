mod Places
pub mod Sweeping
mod Visiting
mod Passing
mod Kept
mod Editing
mod Removing
mod Inserting
mod Parting
mod Standing
mod Turning
mod Stretches
mod Runs
mod Tried
mod Coming
mod Drafting
mod Joining
mod Carrying
