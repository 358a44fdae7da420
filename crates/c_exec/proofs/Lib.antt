pub mod Blocks
pub mod Choices
pub mod Gives
pub mod OneLayer
pub mod Switches
pub mod TimedStatements
pub mod Turns
