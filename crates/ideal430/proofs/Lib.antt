pub mod Along
pub mod Deeds
pub mod Effects
mod Examples
pub mod Loading
pub mod Refusing
pub mod Related
pub mod Running
pub mod Runs
pub mod Serving
