pub mod FilterLemmas
pub mod GatherLemmas
pub mod ListLemmas
pub mod OfferLemmas
pub mod OneSetLemmas
pub mod ShareLemmas
