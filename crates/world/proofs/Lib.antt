pub mod HistoryLemmas
pub mod PlanLemmas
pub mod ReadingsLemmas
pub mod TextLemmas
pub mod TraceWorldLemmas
