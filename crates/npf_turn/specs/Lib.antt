pub mod Done
pub mod Endings
pub mod KillLaw
pub mod Reclaims
pub mod TakingOff
