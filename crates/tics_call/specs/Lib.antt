pub mod Form
pub mod Run
pub mod Command
pub mod Outcome
