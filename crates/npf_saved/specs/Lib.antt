pub mod Fields
pub mod File
pub mod Spelling
