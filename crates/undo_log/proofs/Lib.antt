pub mod LogLemmas
pub mod RollLemmas
