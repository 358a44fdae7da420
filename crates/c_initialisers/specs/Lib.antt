pub mod Found
pub mod Scalars
pub mod Lists
