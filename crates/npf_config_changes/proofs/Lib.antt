pub mod AdditionLemmas
mod AnswerLemmas
pub mod AskLemmas
mod ElementLemmas
mod EntryLemmas
pub mod FindLemmas
mod KeptLemmas
mod LoneLemmas
pub mod LawLemmas
pub mod NextLemmas
mod ReadLemmas
