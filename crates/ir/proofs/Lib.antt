pub mod Advance
pub mod Bounded
pub mod Objects
pub mod Holding
pub mod Leading
pub mod Marks
pub mod Once
