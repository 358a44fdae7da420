pub mod BlankLemmas
pub mod Outcomes
pub mod TickLemmas
