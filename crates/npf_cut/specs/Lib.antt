pub mod Dimension
pub mod Partition
pub mod Range
pub mod SetBits
pub mod Span
pub mod Start
