pub mod Placing
pub mod Writes
