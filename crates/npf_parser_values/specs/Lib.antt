pub mod Token
pub mod Value
pub mod Answer
