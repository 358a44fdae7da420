pub mod Variables
pub mod Served
pub mod Begins
pub mod Along
pub mod Follows
pub mod Whole
