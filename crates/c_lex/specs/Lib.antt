pub mod Bytes
pub mod Measures
pub mod Pieces
pub mod Spelling
pub mod Tokens
