pub mod Calling
pub mod Updates
