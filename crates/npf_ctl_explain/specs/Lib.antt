pub mod Answer
pub mod Beside
pub mod Class
pub mod Line
pub mod Outcome
pub mod Text
pub mod Word
