pub mod BoundLemmas
pub mod CellLemmas
pub mod FlagLemmas
pub mod MirrorLemmas
pub mod SequenceLemmas
pub mod SideLemmas
pub mod SegmentLemmas
