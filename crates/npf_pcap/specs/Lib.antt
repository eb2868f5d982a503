pub mod Format
pub mod Record
pub mod Reading
pub mod Capture
pub mod CaptureLaw
pub mod Fault
pub mod Spelling
pub mod Extent
