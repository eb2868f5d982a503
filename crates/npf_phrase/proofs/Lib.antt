pub mod ReadingLemmas
pub mod TestLemmas
pub mod SettledLemmas
pub mod NumberLemmas
pub mod GrammarLemmas
pub mod LooseLemmas
pub mod ListLemmas
