pub mod EpochLemmas
pub mod KindLemmas
