pub mod Members
pub mod OneLayer
pub mod Updating
