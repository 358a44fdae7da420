mod Calls
mod Extents
pub mod Levels
mod StatementSums
mod Sums
