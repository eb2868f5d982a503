pub mod CommandLine
pub mod Definitions
pub mod Laws
pub mod Values
