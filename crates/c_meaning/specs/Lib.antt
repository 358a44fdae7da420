pub mod After
pub mod Laws
pub mod Meaning
pub mod Stamps
pub mod Statements
