pub mod Extents
pub mod Objects
pub mod Operators
pub mod Ordered
pub mod Pointers
pub mod Values
