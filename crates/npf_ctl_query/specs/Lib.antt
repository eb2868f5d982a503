pub mod Decision
pub mod QueryText
pub mod Seen
