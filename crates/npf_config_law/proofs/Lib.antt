pub mod AnswerLemmas
pub mod ChangeLemmas
pub mod CountLemmas
pub mod EntryLemmas
pub mod LoadLemmas
pub mod PartLemmas
pub mod ReloadLemmas
pub mod TableLemmas
