mod Structures
mod Pushed
