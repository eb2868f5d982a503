pub mod BranchLemmas
mod DigitsLemmas
pub mod FillingLemmas
pub mod GrowingLemmas
pub mod HashLemmas
pub mod HomeLemmas
pub mod LevelLemmas
pub mod PathLemmas
