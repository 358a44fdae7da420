pub mod Contents
pub mod Takes
