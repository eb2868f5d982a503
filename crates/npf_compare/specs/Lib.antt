pub mod Difference
pub mod Side
pub mod Told
