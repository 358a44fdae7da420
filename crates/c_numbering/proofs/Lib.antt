pub mod ListParts
pub mod StmtParts
pub mod Turns
