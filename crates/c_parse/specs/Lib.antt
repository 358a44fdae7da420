pub mod Externals
pub mod ExternalReading
