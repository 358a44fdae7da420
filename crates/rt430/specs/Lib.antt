pub mod Operators
pub mod Routines
