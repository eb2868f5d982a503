pub mod Crossings
pub mod Extents
pub mod Outputs
pub mod Passed
pub mod SinkText
pub mod Report
pub mod File
pub mod Capture
