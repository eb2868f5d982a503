pub mod Field
pub mod Checksum
