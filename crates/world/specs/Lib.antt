pub mod History
pub mod Plan
pub mod ReadingsFile
pub mod Refusal
pub mod Text
pub mod TraceFile
pub mod TraceWorld
pub mod World
