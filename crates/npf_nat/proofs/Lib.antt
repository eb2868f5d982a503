pub mod AnswerLemmas
pub mod NetmapLemmas
pub mod NptLemmas
