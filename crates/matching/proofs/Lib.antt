pub mod CellsMatch
pub mod Even
mod Example
pub mod Finding
pub mod Keeping
pub mod Lying
pub mod Making
pub mod Metered
pub mod Outside
pub mod Reaching
pub mod SameBytes
pub mod Spacing
pub mod Storing
pub mod Whole
