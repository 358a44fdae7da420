pub mod Steps
pub mod Placing
pub mod Entries
pub mod Labels
pub mod Laying
