pub mod AppendLemmas
pub mod CutLemmas
pub mod WordLemmas
pub mod TimeoutLemmas
pub mod FieldLemmas
pub mod GuessLemmas
pub mod NameLemmas
