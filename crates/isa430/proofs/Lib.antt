pub mod Fields
pub mod InMemory
pub mod Front
pub mod Formats
