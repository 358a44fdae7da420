pub mod Assembly
pub mod LabelTable
pub mod Emission
pub mod Instructions
pub mod Listing
pub mod Printing
