pub mod Source
pub mod Held
