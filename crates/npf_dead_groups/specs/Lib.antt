pub mod Comes
pub mod Entries
