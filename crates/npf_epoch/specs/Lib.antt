pub mod Stays
pub mod Tries
