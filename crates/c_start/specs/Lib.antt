pub mod Frames
pub mod Starting
