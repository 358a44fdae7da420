pub mod Between
pub mod Ends
pub mod Inside
pub mod Jumps
pub mod Laws
pub mod Machine
pub mod Table
pub mod Typed
