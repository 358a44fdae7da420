pub mod Run
pub mod Code
pub mod Routine
pub mod Kept
