pub mod Configuration
pub mod Count
pub mod Describes
pub mod MapOf
pub mod Numbering
pub mod Place
pub mod Settings
pub mod Verdict
