mod AnewLemmas
mod BuildLemmas
mod FoundLemmas
mod OpenLemmas
