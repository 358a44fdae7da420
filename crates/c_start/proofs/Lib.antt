pub mod Framing
pub mod Mains
pub mod Starts
