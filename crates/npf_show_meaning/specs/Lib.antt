pub mod Law
pub mod Regular
