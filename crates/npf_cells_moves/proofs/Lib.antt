pub mod KeepLemmas
pub mod LoadLemmas
pub mod MarkMoveLemmas
pub mod MoveLemmas
