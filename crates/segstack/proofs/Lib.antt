pub mod Deeds
pub mod Stack
