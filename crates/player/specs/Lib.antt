pub mod Form
pub mod Playing
pub mod Ticks
pub mod Turning
