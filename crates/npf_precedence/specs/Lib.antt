pub mod Entry
pub mod Precedence
pub mod PrecedenceLaw
