pub mod Alike
mod Chosen
mod Forms
mod Placed
mod Sliced
mod SoleArrays
mod Spreads
mod Trues
mod Walks
