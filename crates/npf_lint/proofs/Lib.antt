pub mod FindingLemmas
pub mod OnceLemmas
pub mod OrderLemmas
pub mod ReachedLemmas
