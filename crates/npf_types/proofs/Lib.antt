pub mod AddressLemmas
pub mod AddressTextLemmas
pub mod PrefixLemmas
pub mod ReadingLemmas
pub mod StageLemmas
pub mod NameLemmas
