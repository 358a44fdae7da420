pub mod Equations
pub mod Turns
