pub mod BlockLemmas
pub mod LineLemmas
pub mod FineLemmas
pub mod ParseLemmas
pub mod MapLemmas
