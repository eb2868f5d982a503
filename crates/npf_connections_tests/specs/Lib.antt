pub mod Joined
pub mod Sum
