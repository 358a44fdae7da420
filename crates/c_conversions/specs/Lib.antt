pub mod Bounds
pub mod Members
