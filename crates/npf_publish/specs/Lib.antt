pub mod ConfReader
pub mod NumberRange
pub mod Protocol
pub mod Publisher
pub mod Told
