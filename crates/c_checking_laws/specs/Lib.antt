pub mod Standing
pub mod Fitting
pub mod Accepted
pub mod Walked
pub mod Programs
