pub mod Growing
pub mod Values
pub mod Doing
pub mod Steps
pub mod Starting
