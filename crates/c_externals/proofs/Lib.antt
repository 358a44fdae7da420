pub mod StructLaws
pub mod Turns
