pub mod EntryLemmas
pub mod LeftLemmas
