pub mod PlanLemmas
pub mod EngineLemmas
