pub mod SectionLemmas
pub mod CellLemmas
pub mod BoxListLemmas
pub mod LookLemmas
pub mod SplitLemmas
