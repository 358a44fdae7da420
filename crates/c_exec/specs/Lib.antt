pub mod Groups
pub mod Switching
pub mod Timing
