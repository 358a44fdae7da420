pub mod Display
pub mod Index
pub mod Log
pub mod Sets
