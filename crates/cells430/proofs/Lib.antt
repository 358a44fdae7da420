pub mod Settling
pub mod Cells
pub mod Lift
pub mod Calls
pub mod Services
pub mod Outputs
pub mod OutputCells
pub mod Frames
pub mod Framed
pub mod Segments
pub mod Steady
pub mod Counting
pub mod Start
mod Examples
