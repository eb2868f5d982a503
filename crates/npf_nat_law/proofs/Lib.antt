pub mod NeutralLemmas
pub mod PlanLemmas
pub mod WordsLemmas
