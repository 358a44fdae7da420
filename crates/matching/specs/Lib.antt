pub mod Covering
pub mod Laid
pub mod Laws
pub mod Matches
pub mod Said
pub mod Simulates
pub mod Spacing
