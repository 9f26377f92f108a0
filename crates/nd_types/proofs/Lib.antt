pub mod Sized
mod Skipping
