pub mod AgreeLemmas
pub mod CaptureLemmas
pub mod IfaceLemmas
pub mod InputLemmas
pub mod MakingLemmas
pub mod OrderLemmas
pub mod RunLemmas
