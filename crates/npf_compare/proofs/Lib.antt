pub mod AnswerLemmas
pub mod AskedLemmas
pub mod BothLemmas
pub mod CommonLemmas
pub mod PlaceLemmas
pub mod SideLemmas
pub mod ToldLemmas
