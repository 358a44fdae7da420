pub mod Frames
pub mod Laid
pub mod Laws
pub mod Prefixes
pub mod Scalars
pub mod Variables
