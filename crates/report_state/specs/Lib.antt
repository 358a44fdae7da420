pub mod Addresses
pub mod NodeLines
pub mod Placed
pub mod StateText
