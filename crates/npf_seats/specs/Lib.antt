pub mod Moves
pub mod Seats
pub mod SeatsLaw
pub mod Sums
