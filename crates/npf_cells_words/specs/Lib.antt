pub mod Codes
pub mod Layout
pub mod MarkWords
pub mod Opening
pub mod Places
pub mod WordsLaw
