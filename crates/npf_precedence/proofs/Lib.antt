pub mod OrderLemmas
pub mod EntryLemmas
pub mod VerdictLemmas
pub mod PlaceLemmas
