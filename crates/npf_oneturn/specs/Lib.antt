pub mod Views
pub mod Work
pub mod Moves
pub mod Rule
pub mod Endings
pub mod Seats
pub mod Taking
