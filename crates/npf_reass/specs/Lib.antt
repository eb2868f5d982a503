pub mod Class
pub mod Gathering
pub mod Listing
pub mod Moves
pub mod Passes
pub mod Sight
pub mod Turn
