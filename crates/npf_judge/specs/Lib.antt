pub mod Deciders
pub mod Order
pub mod Place
pub mod Products
pub mod Says
