pub mod TestedLemmas
pub mod PossibleLemmas
pub mod WitnessLemmas
