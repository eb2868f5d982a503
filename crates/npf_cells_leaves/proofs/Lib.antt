pub mod EmptyLemmas
pub mod FillLemmas
pub mod GivenLemmas
pub mod GrowLemmas
pub mod ParentLemmas
pub mod StandLemmas
pub mod TakingOffLemmas
pub mod TrieLemmas
