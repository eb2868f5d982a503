pub mod CoverLemmas
pub mod DecideLemmas
pub mod FilterLemmas
pub mod KeyLemmas
pub mod RiseLemmas
pub mod RunLemmas
pub mod SortLemmas
