pub mod Changing
pub mod Counting
pub mod Growing
pub mod Params
