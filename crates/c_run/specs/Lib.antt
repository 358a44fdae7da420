pub mod Actions
pub mod Changes
pub mod Gives
pub mod Lists
pub mod Making
pub mod Runs
