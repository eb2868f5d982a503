pub mod TextLemmas
pub mod LoopLemmas
pub mod LineLemmas
