pub mod Labels
pub mod Parts
pub mod Frames
pub mod Code
pub mod Items
pub mod Laying
pub mod Laws
pub mod Adding
