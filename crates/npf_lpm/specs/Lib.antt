pub mod Agree
pub mod Blocks
pub mod Cut
pub mod Families
pub mod Index
pub mod Lpm
pub mod Rows
