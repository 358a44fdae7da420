pub mod Extents
pub mod Halving
pub mod Putting
pub mod Stores
