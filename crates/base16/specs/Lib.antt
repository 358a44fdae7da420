pub mod Board
pub mod Hexadecimal
pub mod Integer
pub mod Memory
pub mod Placement
pub mod Readings
