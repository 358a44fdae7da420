pub mod Emitting
pub mod Few
pub mod Grouping
pub mod Laying
