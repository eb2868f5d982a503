pub mod ExtentLemmas
pub mod FormatLemmas
pub mod RecordLemmas
pub mod CaptureLemmas
pub mod SpellingLemmas
