pub mod Indexes
pub mod Addresses
pub mod Settling
pub mod Counting
pub mod Cursors
pub mod Filling
pub mod Declaring
