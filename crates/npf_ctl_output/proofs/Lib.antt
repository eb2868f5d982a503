pub mod CrossingsLemmas
pub mod OutputLemmas
pub mod ReportLemmas
pub mod WrittenLemmas
