pub mod Finding
pub mod Having
pub mod ListParts
