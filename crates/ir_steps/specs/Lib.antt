pub mod Doing
pub mod Giving
