pub mod Fate
pub mod Run
pub mod Whole
