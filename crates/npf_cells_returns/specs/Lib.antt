pub mod LoadKinds
pub mod MarkKinds
pub mod MarkLaw
pub mod ReturnsLaw
