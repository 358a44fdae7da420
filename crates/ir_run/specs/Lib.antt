pub mod Ending
pub mod Giving
pub mod Going
pub mod Starting
