pub mod ConnectionLemmas
pub mod GivenUpLemmas
pub mod HolderLemmas
pub mod HomeLemmas
pub mod KeptLemmas
pub mod RepresentLemmas
pub mod StandLemmas
