pub mod CloseLemmas
pub mod EndLemmas
pub mod MoveLemmas
pub mod OpenLemmas
pub mod PassLemmas
pub mod SortLemmas
pub mod TakeLemmas
pub mod TurnsLemmas
