mod CoverLemmas
mod IdleLemmas
mod NearLemmas
pub mod RemainsLemmas
mod StandLemmas
