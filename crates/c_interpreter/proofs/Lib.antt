pub mod Begins
pub mod Deeper
pub mod Ends
pub mod Rules
