pub mod Examples
pub mod TickKinds
pub mod Undoing
pub mod WriteKinds
pub mod Writes
