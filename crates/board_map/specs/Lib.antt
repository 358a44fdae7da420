pub mod Costs
pub mod Map
pub mod Recovered
pub mod Ticks
pub mod WellFormed
