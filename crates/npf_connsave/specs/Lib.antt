pub mod Copied
pub mod Laws
pub mod Loads
pub mod Saves
