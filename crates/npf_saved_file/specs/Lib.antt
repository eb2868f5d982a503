pub mod Conns
pub mod File
pub mod Lines
pub mod Refusal
