pub mod MapDifference
pub mod Side
