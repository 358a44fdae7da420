pub mod Declaring
pub mod Leaving
pub mod ParameterLaws
pub mod Returning
pub mod Turns
