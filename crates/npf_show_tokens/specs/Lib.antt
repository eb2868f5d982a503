pub mod Showable
pub mod Tokens
pub mod Values
