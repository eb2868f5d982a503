pub mod CodeLemmas
pub mod MarkLemmas
pub mod OpeningLemmas
pub mod WordLemmas
