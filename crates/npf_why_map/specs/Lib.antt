pub mod Laws
pub mod Place
pub mod Reason
pub mod Side
