pub mod Pruning
pub mod PruningLaw
