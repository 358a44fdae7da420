pub mod Examples
pub mod LawfulOperands
pub mod LawfulOperators
pub mod Walked
